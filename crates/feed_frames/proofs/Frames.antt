-- The records of a list of bytes, one after the other. Assumes nothing.
use mathlib.Core.Path.{◌≡◌, refl, sym, ◌∙◌}
use mathlib.Core.Bool.{true, false}
use mathlib.Core.List.{[], ◌∷◌}
use Prim.Native.Nat.{ℕ, zero, suc, ◌+◌, ◌-◌, ◌≤◌, ◌<◌}
use native.Mathlib.Omega.{arith}
use lib.Dec.{leb}
use lib.ListN.{length, take, drop, length-drop, drop_of_length-le}
use lib.Seq.{drop-drop, drop-length, take-nil}
use borrow.Author.Tests.{eq-eqb, ne_eqb, le-leb, lt-leb}
use Rattle.base.specs.Lists.{pick}
use Rattle.base.specs.Le.{Bytes, le_at}
use Rattle.feed_frames.specs.Frames.{records_up_to, records_in}
use Rattle.feed_frames.specs.Next.{NextRecord}

-- a bound that is no less than the number of bytes cuts nothing off
up_to_same : (n m : ℕ) (s : Bytes) → length s ≤ n → length s ≤ m → records_up_to n s ≡ records_up_to m s
unfolding records_up_to
up_to_same zero zero s h k = refl
up_to_same zero (suc m) s h k = rw (eq-eqb (length s) 0 (omega arith))
up_to_same (suc n) zero s h k = rw (eq-eqb (length s) 0 (omega arith))
up_to_same (suc n) (suc m) s h k =
    let l = length-drop (4 + le_at 4 s 0) s in
    rw (up_to_same n m (drop (4 + le_at 4 s 0) s) (omega (arith, l)) (omega (arith, l)))

-- the first record, and the others
pub records_on : (s : Bytes) → 0 < length s
    → records_in s
    ≡ pick (leb (4 + le_at 4 s 0) (length s)) (take (le_at 4 s 0) (drop 4 s) ∷ records_in (drop (4 + le_at 4 s 0) s)) ([] ∷ [])
unfolding records_in records_up_to
records_on s h = go (length s) refl
  where
    l : length (drop (4 + le_at 4 s 0) s) ≡ length s - (4 + le_at 4 s 0)
    l = length-drop (4 + le_at 4 s 0) s

    go : (n : ℕ) → length s ≡ n
        → records_up_to n s
        ≡ pick (leb (4 + le_at 4 s 0) (length s)) (take (le_at 4 s 0) (drop 4 s) ∷ records_up_to (length (drop (4 + le_at 4 s 0) s)) (drop (4 + le_at 4 s 0) s))
        ([] ∷ [])
    go zero e = absurd (omega arith)
    go (suc n) e =
        rw (
          ne_eqb (length s) 0 (λ (z : length s ≡ 0). omega arith),
          up_to_same n (length (drop (4 + le_at 4 s 0) s)) (drop (4 + le_at 4 s 0) s)
              (omega (arith, l)) (omega arith),
        )

pub records_end : (s : Bytes) (at : ℕ) → length s ≤ at → records_in (drop at s) ≡ []
unfolding records_in records_up_to
records_end s at h = rw (drop_of_length-le s h)

size_at : (s : Bytes) (at : ℕ) → le_at 4 (drop at s) 0 ≡ le_at 4 s at
unfolding le_at
size_at s at = refl

module _ (s : Bytes) (at : ℕ) (h : at < length s) where
  left : length (drop at s) ≡ length s - at
  left = length-drop at s

  pub next_whole : (n : ℕ) → n ≡ le_at 4 s at → at + 4 + n ≤ length s → NextRecord s at (record { start = at + 4; end = at + 4 + n })
  next_whole n e k =
      let size : le_at 4 (drop at s) 0 ≡ n = size_at s at ∙ sym e in
      let fits : leb (4 + n) (length (drop at s)) ≡ true = le-leb (4 + n) (length (drop at s)) (omega (arith, left)) in
      let there : at + (4 + n) ≡ at + 4 + n = omega arith in
      let long : at + 4 + n - (at + 4) ≡ n = omega arith in
      record {
        on = omega arith;
        within = k;
        starts = omega arith;
        records = records_on (drop at s) (omega (arith, left)) ∙ rw (size, fits, drop-drop 4 at s, drop-drop (4 + n) at s, there, long);
      }

  -- a length past the end, or stray bytes
  pub next_broken : length s < at + 4 + le_at 4 s at → NextRecord s at (record { start = length s; end = length s })
  next_broken k =
      let past : leb (4 + le_at 4 s at) (length (drop at s)) ≡ false = lt-leb (4 + le_at 4 s at) (length (drop at s)) (omega (arith, left)) in
      record {
        on = h;
        within = omega arith;
        starts = omega arith;
        records = records_on (drop at s) (omega (arith, left)) ∙ rw (
          size_at s at,
          past,
          records_end s (length s) (omega arith),
          drop-length s,
          take-nil
              (length s - length s),
        );
      }
