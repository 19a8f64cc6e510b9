-- What a loop over a slice meets: the list from an index on, one element at a time. Assumes nothing.
use mathlib.Core.Path.{◌≡◌}
use mathlib.Core.Bool.{Bool, true, false}
use mathlib.Core.List.{List, ◌∷◌}
use Prim.Native.Nat.{ℕ, ◌+◌, ◌≤◌, ◌<◌}
use native.Mathlib.Numerals.{add-one}
use lib.Dec.{ltb}
use lib.ListN.{length, get_or, drop, drop_of_length-le}
use lib.Seq.{drop-cons}
use borrow.Author.Tests.{ltb-true, lt-ltb}
use Rattle.base.specs.Lists.{any_of, sum_of}
use Rattle.base.proofs.Tests.{same_test}

-- the element at an index, then the list from the next index on
pub drop_next : (l : List ℕ) (i : ℕ) → i < length l → drop i l ≡ get_or l i 0 ∷ drop (i + 1) l
drop_next l i h = rw (add-one) (drop-cons l i 0 h)

-- a test of some element: it holds at this index, or it is left to the rest
pub any_found : (p : ℕ → Bool) (l : List ℕ) (i : ℕ) → i < length l → p (get_or l i 0) ≡ true → any_of p (drop i l) ≡ true
unfolding any_of
any_found p l i h e = rw (drop_next l i h, e)

pub any_on : (p : ℕ → Bool) (l : List ℕ) (i : ℕ) → i < length l → p (get_or l i 0) ≡ false → any_of p (drop i l) ≡ any_of p (drop (i + 1) l)
unfolding any_of
any_on p l i h e = rw (drop_next l i h, e)

pub any_end : (p : ℕ → Bool) (l : List ℕ) (i : ℕ) → length l ≤ i → any_of p (drop i l) ≡ false
unfolding any_of
any_end p l i h = rw (drop_of_length-le l h)

-- the sum of the list from an index on
pub sum_on : (l : List ℕ) (i : ℕ) → i < length l → sum_of (drop i l) ≡ get_or l i 0 + sum_of (drop (i + 1) l)
unfolding sum_of
sum_on l i h = rw (drop_next l i h)

pub sum_end : (l : List ℕ) (i : ℕ) → length l ≤ i → sum_of (drop i l) ≡ 0
unfolding sum_of
sum_end l i h = rw (drop_of_length-le l h)

-- two orders that stand and fall together are one test
pub ltb_same : (a b c d : ℕ) → (a < b → c < d) → (c < d → a < b) → ltb a b ≡ ltb c d
ltb_same a b c d f g = same_test (ltb a b) (ltb c d) (λ e. lt-ltb c d (f (ltb-true a b e))) (λ e. lt-ltb a b (g (ltb-true c d e)))
