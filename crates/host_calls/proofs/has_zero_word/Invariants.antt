use Prim.Native.Nat.{◌≤◌, ◌-◌}
use mathlib.Core.Path.{◌≡◌}
use lib.ListN.{drop}
use lib.Dec.{eqb}
use Rattle.words.specs.Words.{words_of}
use Rattle.base.specs.Lists.{any_of}
use Rattle.host_calls.proofs.has_zero_word.Given as goal

abbrev pub invariant-loop-i : goal.invariant-loop-i
invariant-loop-i l = (l.i ≤ l.n) × (any_of (λ w. eqb w 0) (words_of l.bytes) ≡ any_of (λ w. eqb w 0) (drop l.i (words_of l.bytes)))
