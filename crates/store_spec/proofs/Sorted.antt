-- Ascending numbers, by their places. Assumes nothing.
use mathlib.Core.Path.{◌≡◌, refl}
use mathlib.Core.List.{List, [], ◌∷◌}
use mathlib.Core.Bool.{true, false}
use Prim.Native.Nat.{ℕ, zero, suc, ◌<◌}
use native.Mathlib.Omega.{arith}
use lib.Dec.{ltb, eqb}
use lib.ListN.{length, get_or}
use borrow.Author.Tests.{ltb-true, eq-eqb, ne_eqb}
use Rattle.base.specs.Lists.{all_of, any_of, pairwise}
use Rattle.base.proofs.Tests.{and_left, and_right, or_right}
use Rattle.store_spec.specs.Entry.{is_in}

every_above : (x : ℕ) (l : List ℕ) (j : ℕ) → all_of (ltb x) l ≡ true → j < length l → x < get_or l j 0
unfolding all_of
every_above x [] j h k = absurd (omega arith)
every_above x (y ∷ l) zero h k = ltb-true x y (and_left (ltb x y) _ h)
every_above x (y ∷ l) (suc j) h k = every_above x l j (and_right (ltb x y) _ h) (omega arith)

pub sorted_at : (l : List ℕ) (i j : ℕ) → pairwise ltb l ≡ true → i < j → j < length l → get_or l i 0 < get_or l j 0
unfolding pairwise
sorted_at [] i j h k m = absurd (omega arith)
sorted_at (x ∷ l) i zero h k m = absurd (omega arith)
sorted_at (x ∷ l) zero (suc j) h k m = every_above x l j (and_left (all_of (ltb x) l) _ h) (omega arith)
sorted_at (x ∷ l) (suc i) (suc j) h k m = sorted_at l i j (and_right (all_of (ltb x) l) _ h) (omega arith) (omega arith)

pub is_in_lem : (x : ℕ) (l : List ℕ) (j : ℕ) → j < length l → get_or l j 0 ≡ x → is_in x l ≡ true
unfolding is_in any_of
is_in_lem x [] j h e = absurd (omega arith)
is_in_lem x (y ∷ l) zero h e = rw (eq-eqb y x e)
is_in_lem x (y ∷ l) (suc j) h e = or_right (eqb y x) _ (is_in_lem x l j (omega arith) e)

pub not_in : (x : ℕ) (l : List ℕ) → ((j : ℕ) → j < length l → get_or l j 0 ≡ x → ⊥) → is_in x l ≡ false
unfolding is_in any_of
not_in x [] f = refl
not_in x (y ∷ l) f = rw (ne_eqb y x (f 0 (omega arith))) (not_in x l (λ j h. f (suc j) (omega arith)))
