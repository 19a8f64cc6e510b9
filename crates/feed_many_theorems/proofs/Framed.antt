-- Records with their lengths before them, read back. Assumes nothing.
use mathlib.Core.Path.{◌≡◌, refl, sym, ◌∙◌}
use mathlib.Core.Bool.{true}
use mathlib.Core.List.{List, [], ◌∷◌, ◌++◌, append_assoc, append-nil}
use Prim.Native.Nat.{◌+◌, ◌^◌, ◌<◌}
use native.Mathlib.Omega.{arith}
use lib.Dec.{ltb}
use lib.ListN.{length, drop, length-append}
use lib.Seq.{take_at, drop_at, drop-drop}
use borrow.Author.Tests.{ltb-true, le-leb, lt-leb}
use Rattle.base.specs.Lists.{all_of}
use Rattle.base.specs.Le.{Bytes, le_at, le_bytes}
use Rattle.base.proofs.Tests.{and_left, and_right}
use Rattle.base.proofs.Le.{length_le_bytes, le_number_le_bytes}
use Rattle.feed_frames.specs.Frames.{records_up_to, records_in}
use Rattle.feed_many_theorems.specs.Claims.{framed, sized}
use Rattle.feed_frames.proofs.Frames.{records_on}

module _ (r x : Bytes) (h : length r < 2 ^ 32) where
  whole : Bytes
  whole = le_bytes 4 (length r) ++ (r ++ x)

  four : length (le_bytes 4 (length r)) ≡ 4
  four = length_le_bytes 4 (length r)

  size_framed : le_at 4 whole 0 ≡ length r
  unfolding le_at whole
  size_framed = rw (take_at (le_bytes 4 (length r)) (r ++ x) 4 four) (le_number_le_bytes 4 (length r) h)

  long : length whole ≡ 4 + (length r + length x)
  unfolding whole
  long = omega (arith, length-append (le_bytes 4 (length r)) (r ++ x), length-append r x, four)

  body : drop 4 whole ≡ r ++ x
  unfolding whole
  body = drop_at (le_bytes 4 (length r)) (r ++ x) 4 four

  others : drop (4 + length r) whole ≡ x
  others = sym (drop-drop (length r) 4 whole) ∙ rw body (drop_at r x (length r) refl)

  first_read : records_in whole ≡ r ∷ records_in x
  first_read =
      records_on whole (omega (arith, long))
      ∙ rw (size_framed, le-leb (4 + length r) (length whole) (omega (arith, long)), others, body, take_at r x (length r) refl)

  pub first_framed : records_in (le_bytes 4 (length r) ++ (r ++ x)) ≡ r ∷ records_in x
  unfolding whole
  first_framed = first_read

pub framed_then : (rs : List Bytes) → sized rs ≡ true → (x : Bytes) → records_in (framed rs ++ x) ≡ rs ++ records_in x
unfolding framed sized all_of
framed_then [] h x = refl
framed_then (r ∷ rs) h x =
    rw (
      append_assoc (le_bytes 4 (length r)) (r ++ framed rs) x,
      append_assoc r (framed rs) x,
      first_framed r (framed rs ++ x) (ltb-true (length r) (2 ^ 32) (and_left (ltb (length r) (2 ^ 32)) _ h)),
      framed_then rs (and_right (ltb (length r) (2 ^ 32)) _ h) x,
    )

pub records_framed : (rs : List Bytes) → sized rs ≡ true → records_in (framed rs) ≡ rs
unfolding records_in records_up_to
records_framed rs h = rw (← append-nil (framed rs)) (framed_then rs h [] ∙ append-nil rs)

pub broken_end : (rs : List Bytes) (x : Bytes) → sized rs ≡ true → 0 < length x → length x < 4 + le_at 4 x 0
    → records_in (framed rs ++ x) ≡ rs ++ ([] ∷ [])
broken_end rs x h p q = framed_then rs h x ∙ rw (records_on x p, lt-leb (4 + le_at 4 x 0) (length x) q)
