use Prim.Native.Nat.{◌≤◌, ◌-◌}
use mathlib.Core.Path.{◌≡◌}
use lib.Seq.{sets}
use lib.ListN.{length}
use Rattle.words.specs.Words.{words_in}
use Rattle.words.proofs.words_of.Given as goal

abbrev pub invariant-loop-i : goal.invariant-loop-i
invariant-loop-i l = (l.i ≤ length l.initial.words) × ((length l.words ≡ length l.initial.words) × (l.words ≡ sets l.initial.words 0 (words_in l.i l.bytes)))
