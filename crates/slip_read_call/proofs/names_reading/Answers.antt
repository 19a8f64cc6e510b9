use mathlib.Core.Path.{◌≡◌, refl}
use mathlib.Core.Bool.{false}
use mathlib.Core.List.{List, [], ◌∷◌}
use Prim.Native.Nat.{ℕ}
use native.Mathlib.Omega.{arith}
use lib.Dec.{ltb}
use lib.ListN.{length, get_or}
use Rattle.slip_spec.specs.Slip.{names_reading}
use Rattle.slip_read_call.proofs.names_reading.Goals as goal

no_byte : (s : List ℕ) → length s ≡ 0 → false ≡ names_reading s
unfolding names_reading
no_byte [] h = refl
no_byte (b ∷ s) h = absurd (omega arith)

a_byte : (s : List ℕ) → (length s ≡ 0 → ⊥) → ltb (get_or s 0 0) 2 ≡ names_reading s
unfolding names_reading
a_byte [] h = absurd (h refl)
a_byte (b ∷ s) h = refl

pub returns-then-slip-eq0 : goal.returns-then-slip-eq0
returns-then-slip-eq0 c = no_byte c.args.slip.now c.if-slip-eq0.true

pub returns : goal.returns
returns c = a_byte c.args.slip.now c.if-slip-eq0.false
