-- Cursors moved on one after the other. Assumes nothing.
use mathlib.Core.Path.{◌≡◌, refl, ap, subst, ◌∙◌}
use mathlib.Core.List.{List}
use Prim.Native.Nat.{ℕ, zero, suc, ◌+◌, ◌-◌, ◌*◌, ◌≤◌, ◌<◌}
use native.Mathlib.Omega.{arith}
use native.Mathlib.Decide.{dec_lt}
use lib.ListN.{length, get_or, set, length-set}
use lib.Seq.{get_or-set_same, get_or-set_other}
use Rattle.index_pieces.specs.Sources.{cursor_at, cursor_left}
use Rattle.index_cursors.specs.Cursors.{moved_at, Movable, MovedBy}

-- the first j cursors were moved on
pub record MovingBy (cs₀ : List ℕ) (k : ℕ) (cs : List ℕ) (j : ℕ) : Type 0 where
  pub long : length cs ≡ length cs₀
  pub at : (i : ℕ) → i < j → get_or cs (2 * i) 0 ≡ moved_at (get_or cs₀ (2 * i) 0) (get_or cs₀ (2 * i + 1) 0) k
  pub left : (i : ℕ) → i < j → get_or cs (2 * i + 1) 0 ≡ get_or cs₀ (2 * i + 1) 0 - k
  pub rest : (i : ℕ) → 2 * j ≤ i → get_or cs i 0 ≡ get_or cs₀ i 0

module _ (cs₀ : List ℕ) (k : ℕ) where
  pub moving_start : MovingBy cs₀ k cs₀ 0
  moving_start = record { long = refl; at = λ i h. absurd (omega arith); left = λ i h. absurd (omega arith); rest = λ i h. refl }

  module _ (cs : List ℕ) (j : ℕ) (m : MovingBy cs₀ k cs j) where
    module _ (a b : ℕ) (room : 2 * j + 1 < length cs) where
      abbrev next : List ℕ
      next = set (set cs (2 * j) a) (2 * j + 1) b

      at_same : get_or next (2 * j) 0 ≡ a
      at_same = get_or-set_other (set cs (2 * j) a) (2 * j + 1) (2 * j) b 0 (λ (e : 2 * j ≡ 2 * j + 1). omega arith)
          ∙ get_or-set_same cs (2 * j) a 0 (omega arith)

      left_same : get_or next (2 * j + 1) 0 ≡ b
      left_same = let h : 2 * j + 1 < length (set cs (2 * j) a) = omega (arith, length-set cs (2 * j) a) in get_or-set_same (set cs (2 * j) a) (2 * j + 1) b 0 h

      elsewhere : (i : ℕ) → (i ≡ 2 * j → ⊥) → (i ≡ 2 * j + 1 → ⊥) → get_or next i 0 ≡ get_or cs i 0
      elsewhere i p q = get_or-set_other (set cs (2 * j) a) (2 * j + 1) i b 0 q ∙ get_or-set_other cs (2 * j) i a 0 p

      pub moving_on : a ≡ moved_at (get_or cs (2 * j) 0) (get_or cs (2 * j + 1) 0) k → b ≡ get_or cs (2 * j + 1) 0 - k
          → MovingBy cs₀ k (set (set cs (2 * j) a) (2 * j + 1) b) (j + 1)
      moving_on e f =
          record {
            long = length-set (set cs (2 * j) a) (2 * j + 1) b ∙ length-set cs (2 * j) a ∙ m.long;
            at = λ i h. at i h (dec_lt i j);
            left = λ i h. left i h (dec_lt i j);
            rest = λ i h. elsewhere i (λ (z : i ≡ 2 * j). omega arith) (λ (z : i ≡ 2 * j + 1). omega arith) ∙ m.rest i (omega arith);
          }
        where
          old_at : get_or cs (2 * j) 0 ≡ get_or cs₀ (2 * j) 0
          old_at = m.rest (2 * j) (omega arith)

          old_left : get_or cs (2 * j + 1) 0 ≡ get_or cs₀ (2 * j + 1) 0
          old_left = m.rest (2 * j + 1) (omega arith)

          at : (i : ℕ) → i < j + 1 → Dec (i < j) → get_or next (2 * i) 0 ≡ moved_at (get_or cs₀ (2 * i) 0) (get_or cs₀ (2 * i + 1) 0) k
          at i h (yes l) = elsewhere (2 * i) (λ (z : 2 * i ≡ 2 * j). omega arith) (λ (z : 2 * i ≡ 2 * j + 1). omega arith) ∙ m.at i l
          at i h (no l) =
              let q : j ≡ i = omega arith in
              subst (λ (z : ℕ). get_or next (2 * z) 0 ≡ moved_at (get_or cs₀ (2 * z) 0) (get_or cs₀ (2 * z + 1) 0) k) q
              (at_same ∙ e ∙ ap (λ (w : ℕ). moved_at w (get_or cs (2 * j + 1) 0) k) old_at ∙ ap (λ (w : ℕ). moved_at (get_or cs₀ (2 * j) 0) w k) old_left)

          left : (i : ℕ) → i < j + 1 → Dec (i < j) → get_or next (2 * i + 1) 0 ≡ get_or cs₀ (2 * i + 1) 0 - k
          left i h (yes l) = elsewhere (2 * i + 1) (λ (z : 2 * i + 1 ≡ 2 * j). omega arith) (λ (z : 2 * i + 1 ≡ 2 * j + 1). omega arith) ∙ m.left i l
          left i h (no l) =
              let q : j ≡ i = omega arith in
              subst (λ (z : ℕ). get_or next (2 * z + 1) 0 ≡ get_or cs₀ (2 * z + 1) 0 - k) q (left_same ∙ f ∙ ap (λ (w : ℕ). w - k) old_left)

    -- the next cursor is as it was
    module _ (n : ℕ) (v : Movable cs₀ n k) (h : j < n) where
      pub moving_room : 2 * j + 1 < length cs
      moving_room = omega (arith, v.room, m.long)

      pub moving_left : 0 < get_or cs (2 * j + 1) 0 → k ≤ get_or cs (2 * j + 1) 0
      unfolding cursor_left
      moving_left g = let e = m.rest (2 * j + 1) (omega arith) in omega (arith, e, v.left j h (omega (arith, e, g)))

      pub moving_fits : get_or cs (2 * j) 0 + 10 * get_or cs (2 * j + 1) 0 ≤ 18446744073709551615
      unfolding cursor_left cursor_at
      moving_fits = omega (arith, v.fits j h, m.rest (2 * j) (omega arith), m.rest (2 * j + 1) (omega arith))

    pub moving_end : (n : ℕ) → n ≤ j → MovedBy cs₀ n k cs
    unfolding cursor_at cursor_left
    moving_end n h = record { long = m.long; at = λ i l. m.at i (omega arith); left = λ i l. m.left i (omega arith) }

-- ---- one cursor

pub at_none : (at left k : ℕ) → left ≡ 0 → at ≡ moved_at at left k
unfolding moved_at
at_none at left k e = rw e

pub at_some : (at left k : ℕ) → 0 < left → at + 10 * k ≡ moved_at at left k
unfolding moved_at
at_some at zero k h = absurd (omega arith)
at_some at (suc left) k h = refl
