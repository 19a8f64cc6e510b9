use Prim.Native.Nat.{◌-◌}
use lib.ListN.{length}
use Rattle.feed_items_fit.proofs.Copying.{Copied}
use Rattle.feed_items_fit.proofs.copy_words.Given as goal

abbrev pub invariant-loop-i : goal.invariant-loop-i
invariant-loop-i l = Copied l.from l.to l.i
