-- One pass over the windows tells whether they are in order. Assumes nothing.
use mathlib.Core.Path.{◌≡◌, refl, sym, ◌∙◌}
use mathlib.Core.Bool.{Bool, true, false, ◌&&◌}
use mathlib.Core.List.{List, [], ◌∷◌}
use Prim.Native.Nat.{ℕ, ◌≤◌, ◌<◌}
use native.Mathlib.Omega.{arith}
use lib.Dec.{ltb, leb}
use borrow.Author.Tests.{le-leb, ltb-true, leb-true}
use Rattle.base.specs.Lists.{all_of, pairwise}
use Rattle.base.proofs.Lists.{all_every, every_all, every}
use Rattle.base.proofs.Tests.{not_both, and_left}
use Rattle.calendar_windows.specs.Calendar.{Window, in_range, ends_before, in_order}

-- each start is at or above the end before it
unfoldable pub in_order_from : ℕ → List Window → Bool
in_order_from e [] = true
in_order_from e (w ∷ ws) = leb e w.start && (in_range w && in_order_from w.end ws)

shuffle : (l a i r b p : Bool) → (l ≡ true → i ≡ true → b ≡ true → a ≡ true) → l && (i && (b && (r && p))) ≡ (l && a) && ((i && r) && (b && p))
shuffle false a i r b p h = refl
shuffle true true false r b p h = refl
shuffle true true true false true p h = refl
shuffle true true true false false p h = refl
shuffle true true true true true p h = refl
shuffle true true true true false p h = refl
shuffle true false false r b p h = refl
shuffle true false true r false p h = refl
shuffle true false true r true p h = absurd (not_both (h refl refl refl) refl)

from_order : (e : ℕ) (ws : List Window) → in_order_from e ws ≡ all_of (λ w. leb e w.start) ws && in_order ws
unfolding in_order_from all_of in_order pairwise
from_order e [] = refl
from_order e (w ∷ ws) = rw (from_order w.end ws) (shuffle (leb e w.start) _ (in_range w) _ (all_of (ends_before w) ws) _ later)
  where
    later : leb e w.start ≡ true → in_range w ≡ true → all_of (ends_before w) ws ≡ true → all_of (λ v. leb e v.start) ws ≡ true
    later h k i =
        let l : e ≤ w.start = leb-true e w.start h in
        let m : w.start < w.end = unfold in_range in ltb-true w.start w.end (and_left (ltb w.start w.end) _ k) in
        every_all (λ v. leb e v.start) ws (every (λ v j. le-leb e v.start (omega (arith, leb-true w.end v.start j))) ws
        (all_every (ends_before w) ws i))

from_zero : (ws : List Window) → all_of (λ w. leb 0 w.start) ws ≡ true
unfolding all_of
from_zero [] = refl
from_zero (w ∷ ws) = rw (le-leb 0 w.start (omega arith)) (from_zero ws)

pub order_from : (ws : List Window) → in_order ws ≡ in_order_from 0 ws
order_from ws = sym (from_order 0 ws ∙ rw (from_zero ws))
