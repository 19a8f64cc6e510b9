-- A list stored into another. Assumes nothing.
use mathlib.Core.Path.{◌≡◌, ◌∙◌}
use mathlib.Core.List.{List, append-nil}
use Prim.Native.Nat.{ℕ}
use native.Mathlib.Nat.{zero-add}
use native.Mathlib.Omega.{arith}
use lib.ListN.{length, drop_of_length-le}
use lib.Seq.{sets, sets-eq}

-- over the whole list
pub sets_complete : (l vs : List ℕ) → length vs ≡ length l → sets l 0 vs ≡ vs
sets_complete l vs e = sets-eq vs l 0 (omega arith) ∙ rw (zero-add, drop_of_length-le l {i = length vs} (omega arith)) (append-nil vs)
