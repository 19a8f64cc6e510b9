-- Where blasting ends, worked out by one walk over the windows. Assumes nothing.
use mathlib.Core.Path.{◌≡◌, refl}
use mathlib.Core.Bool.{Bool, true, false}
use mathlib.Core.List.{List, [], ◌∷◌}
use Prim.Native.Nat.{ℕ, ◌≤◌, ◌<◌}
use native.Mathlib.Omega.{arith}
use native.Mathlib.Decide.{dec_lt, dec_le}
use lib.Dec.{ltb, leb}
use borrow.Author.Tests.{lt-ltb, le-leb, lt-leb, ltb-true, leb-true}
use Rattle.base.specs.Lists.{pick, any_of, all_of}
use Rattle.base.proofs.Lists.{Every, none_of, and, Pairs, no_pairs, with_later, all_every, pairwise_pairs, every}
use Rattle.base.proofs.Tests.{fails, not_both, and_left, and_right, or_left, or_right}
use Rattle.calendar_windows.specs.Calendar.{Window, week, in_range, ends_before, in_order, within, blasting}
use Rattle.calendar_windows.specs.Free.{Free}

-- each window that the second lies in moves it to its end
unfoldable pub free_from : List Window → ℕ → ℕ
free_from [] s = s
free_from (w ∷ ws) s = free_from ws (pick (within s w) w.end s)

-- ---- in a window or not

in_window_lem : (s : ℕ) (w : Window) → w.start ≤ s → s < w.end → within s w ≡ true
unfolding within
in_window_lem s w h k = rw (le-leb w.start s h, lt-ltb s w.end k)

below_window : (s : ℕ) (w : Window) → s < w.start → within s w ≡ false
unfolding within
below_window s w h = rw (lt-leb w.start s h)

above_window : (s : ℕ) (w : Window) → w.end ≤ s → within s w ≡ false
unfolding within
above_window s w h = fails _ (λ e. omega (arith, ltb-true s w.end (and_right (leb w.start s) _ e)))

window_in : (s : ℕ) (w : Window) → within s w ≡ true → (w.start ≤ s) × (s < w.end)
unfolding within
window_in s w e = (leb-true w.start s (and_left (leb w.start s) _ e), ltb-true s w.end (and_right (leb w.start s) _ e))

-- ---- windows in order, as facts

data Ordered : List Window → Type 0 where
  no_window : Ordered []
  window : {w : Window} {ws : List Window} → w.end ≤ week → Every (λ v. w.end ≤ v.start) ws → Ordered ws → Ordered (w ∷ ws)

ordered : (ws : List Window) → in_order ws ≡ true → Ordered ws
unfolding in_order
ordered ws h = go ws (all_every in_range ws (and_left (all_of in_range ws) _ h)) (pairwise_pairs ends_before ws (and_right (all_of in_range ws) _ h))
  where
    inside : (w : Window) → in_range w ≡ true → w.end ≤ week
    inside w e = unfold in_range in leb-true w.end week (and_right (ltb w.start w.end) _ e)

    go : (vs : List Window) → Every (λ w. in_range w ≡ true) vs → Pairs (λ v w. ends_before v w ≡ true) vs → Ordered vs
    go [] none_of no_pairs = no_window
    go (w ∷ vs) (and h hs) (with_later k ks) = window (inside w h) (every (λ v e. leb-true w.end v.start e) vs k) (go vs hs ks)

-- no second before every start lies in a window
quiet_before : (s : ℕ) (ws : List Window) → Every (λ v. s < v.start) ws → blasting ws s ≡ false
unfolding blasting any_of
quiet_before s [] none_of = refl
quiet_before s (w ∷ ws) (and h hs) = rw (below_window s w h) (quiet_before s ws hs)

-- ---- the walk

walked : (ws : List Window) → Ordered ws → (s : ℕ) → Free ws s (free_from ws s)
unfolding free_from blasting any_of
walked [] no_window s = record { onward = omega arith; blasts = λ x h k. absurd (omega arith); quiet = refl; in_week = λ h. h }
walked (w ∷ ws) (window inside es os) s = go (within s w) refl (λ x. walked ws os x)
  where
    go : (t : Bool) → within s w ≡ t → ((x : ℕ) → Free ws x (free_from ws x)) → Free (w ∷ ws) s (free_from ws (pick t w.end s))
    go true e ih =
        let p = ih w.end in
        let i = window_in s w e in
        record {
          onward = omega (arith, p.onward, i.1);
          blasts = λ x h k. cases x h k p (dec_lt x w.end);
          quiet = rw (above_window (free_from ws w.end) w p.onward) p.quiet;
          in_week = λ h. p.in_week inside;
        }
      where
        cases : (x : ℕ) → s ≤ x → x < free_from ws w.end → Free ws w.end (free_from ws w.end) → Dec (x < w.end) → blasting (w ∷ ws) x ≡ true
        cases x h k p (yes l) = or_left (within x w) _ (in_window_lem x w (omega (arith, (window_in s w e).0)) l)
        cases x h k p (no l) = or_right (within x w) _ (p.blasts x (omega arith) k)
    go false e ih =
        let p = ih s in
        record {
          onward = p.onward;
          blasts = λ x h k. or_right (within x w) _ (p.blasts x h k);
          quiet = rw (still p (dec_lt s w.end)) p.quiet;
          in_week = p.in_week;
        }
      where
        stays : Free ws s (free_from ws s) → blasting ws s ≡ false → Dec (free_from ws s ≤ s) → free_from ws s ≤ s
        stays p calm (yes l) = l
        stays p calm (no l) = absurd (not_both (p.blasts s (omega arith) (omega arith)) calm)

        -- s is before the window, and then no later one moves it, or after it
        still : Free ws s (free_from ws s) → Dec (s < w.end) → within (free_from ws s) w ≡ false
        still p (no l) = above_window (free_from ws s) w (omega (arith, p.onward))
        still p (yes l) =
            let calm : blasting ws s ≡ false = quiet_before s ws (every (λ v (h : w.end ≤ v.start). omega arith) ws es) in
            let here : free_from ws s ≤ s = stays p calm (dec_le (free_from ws s) s) in
            let same : free_from ws s ≡ s = omega (arith, p.onward) in
            rw same e

pub freed : (ws : List Window) → in_order ws ≡ true → (s : ℕ) → Free ws s (free_from ws s)
freed ws g s = walked ws (ordered ws g) s
