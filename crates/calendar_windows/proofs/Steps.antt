-- Walks over a calendar's words, one window at a time. Assumes nothing.
use mathlib.Core.Path.{◌≡◌, refl}
use mathlib.Core.Bool.{true, false}
use mathlib.Core.List.{List, [], ◌∷◌}
use Prim.Native.Nat.{ℕ, ◌+◌, ◌/◌, ◌%◌, ◌≤◌, ◌<◌}
use native.Mathlib.Omega.{arith}
use native.Mathlib.Decide.{ℕ_discrete}
use lib.Dec.{leb, eqb}
use lib.ListN.{length, get_or, drop, drop_of_length-le}
use borrow.Author.Tests.{le-leb, lt-leb, le-ltb, lt-ltb, eq-eqb, ne_eqb, eqb-true}
use Rattle.base.specs.Lists.{pick}
use Rattle.base.proofs.Loops.{drop_next}
use Rattle.base.proofs.Tests.{and_left, and_right}
use Rattle.calendar_windows.specs.Calendar.{Window, week, windows, in_range, in_order, good_calendar, within}
use Rattle.calendar_windows.proofs.Freed.{free_from}
use Rattle.calendar_windows.proofs.Order.{in_order_from, order_from}

-- ---- the words of a window

abbrev window_at : List ℕ → ℕ → Window
window_at ns i = record { start = get_or ns i 0; end = get_or ns (i + 1) 0 }

windows_on : (ns : List ℕ) (i : ℕ) → i + 1 < length ns → windows (drop i ns) ≡ window_at ns i ∷ windows (drop (i + 2) ns)
unfolding windows
windows_on ns i h =
    let e : i + 1 + 1 ≡ i + 2 = omega arith in
    rw (drop_next ns i (omega arith), drop_next ns (i + 1) h, e)

windows_end : (ns : List ℕ) (i : ℕ) → length ns ≤ i → windows (drop i ns) ≡ []
unfolding windows
windows_end ns i h = rw (drop_of_length-le ns h)

length_windows : (ns : List ℕ) → length (windows ns) ≡ length ns / 2
unfolding windows
length_windows [] = refl
length_windows (x ∷ []) = refl
length_windows (x ∷ y ∷ ns) = omega (arith, length_windows ns)

-- ---- the walk to the end of blasting

pub free_on : (ns : List ℕ) (i s : ℕ) → i + 1 < length ns
    → free_from (windows (drop i ns)) s ≡ free_from (windows (drop (i + 2) ns)) (pick (within s (window_at ns i)) (get_or ns (i + 1) 0) s)
unfolding free_from
free_on ns i s h = rw (windows_on ns i h)

pub free_end : (ns : List ℕ) (i s : ℕ) → length ns ≤ i → free_from (windows (drop i ns)) s ≡ s
unfolding free_from
free_end ns i s h = rw (windows_end ns i h)

-- ---- the check

module _ (ns : List ℕ) where
  pub good_odd : (length ns % 2 ≡ 0 → ⊥) → good_calendar ns ≡ false
  unfolding good_calendar
  good_odd h = rw (ne_eqb (length ns % 2) 0 h)

  pub good_many : 128 < length ns → good_calendar ns ≡ false
  unfolding good_calendar
  good_many h = go (ℕ_discrete (length ns % 2) 0)
    where
      go : Dec (length ns % 2 ≡ 0) → good_calendar ns ≡ false
      go (yes e) = rw (eq-eqb (length ns % 2) 0 e, lt-leb (length (windows ns)) 64 (omega (arith, length_windows ns)))
      go (no e) = rw (ne_eqb (length ns % 2) 0 e)

  pub good_start : length ns % 2 ≡ 0 → length ns ≤ 128 → good_calendar ns ≡ in_order_from 0 (windows (drop 0 ns))
  unfolding good_calendar
  good_start e h = rw (eq-eqb (length ns % 2) 0 e, le-leb (length (windows ns)) 64 (omega (arith, length_windows ns))) (order_from (windows ns))

  pub good_in_order : good_calendar ns ≡ true → in_order (windows ns) ≡ true
  unfolding good_calendar
  good_in_order h = and_right (leb (length (windows ns)) 64) _ (and_right (eqb (length ns % 2) 0) _ h)

  pub good_even : good_calendar ns ≡ true → length ns % 2 ≡ 0
  unfolding good_calendar
  good_even h = eqb-true (length ns % 2) 0 (and_left (eqb (length ns % 2) 0) _ h)

  -- one window more, or the one that breaks the order
  module _ (i e : ℕ) (h : i + 1 < length ns) where
    pub order_overlaps : get_or ns i 0 < e → in_order_from e (windows (drop i ns)) ≡ false
    unfolding in_order_from
    order_overlaps k = rw (windows_on ns i h, lt-leb e (get_or ns i 0) k)

    pub order_empty : e ≤ get_or ns i 0 → get_or ns (i + 1) 0 ≤ get_or ns i 0 → in_order_from e (windows (drop i ns)) ≡ false
    unfolding in_order_from in_range
    order_empty k l = rw (windows_on ns i h, le-leb e (get_or ns i 0) k, le-ltb (get_or ns i 0) (get_or ns (i + 1) 0) l)

    pub order_late : e ≤ get_or ns i 0 → get_or ns i 0 < get_or ns (i + 1) 0 → week < get_or ns (i + 1) 0 → in_order_from e (windows (drop i ns)) ≡ false
    unfolding in_order_from in_range
    order_late k l m = rw (windows_on ns i h, le-leb e (get_or ns i 0) k, lt-ltb (get_or ns i 0) (get_or ns (i + 1) 0) l, lt-leb (get_or ns (i + 1) 0) week m)

    pub order_on : e ≤ get_or ns i 0 → get_or ns i 0 < get_or ns (i + 1) 0 → get_or ns (i + 1) 0 ≤ week
        → in_order_from e (windows (drop i ns)) ≡ in_order_from (get_or ns (i + 1) 0) (windows (drop (i + 2) ns))
    unfolding in_order_from in_range
    order_on k l m = rw (windows_on ns i h, le-leb e (get_or ns i 0) k, lt-ltb (get_or ns i 0) (get_or ns (i + 1) 0) l, le-leb (get_or ns (i + 1) 0) week m)

  pub order_end : (i e : ℕ) → length ns ≤ i → in_order_from e (windows (drop i ns)) ≡ true
  unfolding in_order_from
  order_end i e h = rw (windows_end ns i h)
