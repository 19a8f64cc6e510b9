use mathlib.Core.Path.{◌≡◌}
use Prim.Native.Nat.{◌≤◌, ◌-◌}
use lib.Seq.{sets}
use lib.ListN.{length, take}
use Rattle.words.specs.Words.{bytes_of}
use Rattle.words.proofs.bytes_of.Given as goal

abbrev pub invariant-loop-i : goal.invariant-loop-i
invariant-loop-i l = (l.i ≤ length l.words) × (l.bytes ≡ sets l.initial.bytes 0 (bytes_of (take l.i l.words)))
