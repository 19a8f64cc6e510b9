-- What rows as ranges cover, in whatever order they stand, and which of them are apart. Assumes nothing.
use mathlib.Core.Path.{◌≡◌, refl, sym, subst}
use mathlib.Core.Logic.{◌⊎◌, inl, inr}
use mathlib.Core.Bool.{Bool, true, false, ◌&&◌, ◌||◌}
use mathlib.Core.List.{List, ◌++◌}
use Prim.Native.Nat.{ℕ, ◌≤◌, ◌<◌}
use native.Mathlib.Omega.{arith}
use native.Mathlib.Decide.{dec_lt}
use borrow.Author.Tests.{lt-ltb, le-ltb}
use Rattle.base.specs.Le.{Bytes}
use Rattle.base.proofs.Tests.{or_cases, or_left, or_right, same_test, not_both, holds_or_not, fails}
use Rattle.base.proofs.Members.{any_in, in_any}
use Rattle.base.proofs.Lists.{any_append}
use Rattle.record_spec.specs.Reference.{TransactionLocator, locator, locator_before, new_range, same_reference, within, covers}
use Rattle.record_spec.proofs.References.{by_block, by_offset, is_before, locator_trans, locator_total, reference_total}
use Rattle.record_spec.proofs.Ranges.{within_yes, within_true}
use Rattle.record_reference_bytes.specs.Step.{reference_at}
use Rattle.list_row_sort.specs.Rows.{Row, key_of, row_before, Permuted}
use Rattle.list_row_sort.proofs.Permutations.{permuted_in, in_permuted}
use Rattle.list_range_rows.specs.Ranges.{new_row, row_range, row_covers, any_covers, ends_before, Apart, Proper}
use Rattle.list_range_rows.specs.Step.{later, widened}

-- ---- ends

-- the greater of two ends is one of them, and the other is at most that
pub record Latest (e f x : ℕ) : Type 0 where
  pub first : e ≤ x
  pub second : f ≤ x
  pub either : (o : ℕ) → o < x → (o < e → ⊥) → o < f

pub later_of : (e f : ℕ) → Latest e f (later e f)
unfolding later
later_of e f = go (dec_lt e f)
  where
    go : Dec (e < f) → Latest e f (later e f)
    go (yes h) = rw (lt-ltb e f h) (record { first = omega arith; second = omega arith; either = λ o k n. k })
    go (no h) = rw (le-ltb e f (omega arith)) (record { first = omega arith; second = omega arith; either = λ o k n. absurd (n k) })

within_joined : (a e b f o : ℕ) → a ≤ b → b ≤ e → within a (later e f) o ≡ within a e o || within b f o
within_joined a e b f o h k = same_test _ _ to from
  where
    w : Latest e f (later e f)
    w = later_of e f

    cut : a ≤ o → o < later e f → Dec (o < e) → within a e o || within b f o ≡ true
    cut x y (yes z) = or_left (within a e o) (within b f o) (within_yes a e o x z)
    cut x y (no z) = or_right (within a e o) (within b f o) (within_yes b f o (omega arith) (w.either o y z))

    to : within a (later e f) o ≡ true → within a e o || within b f o ≡ true
    to g = let x = within_true a (later e f) o g in cut x.0 x.1 (dec_lt o e)

    back : (within a e o ≡ true) ⊎ (within b f o ≡ true) → within a (later e f) o ≡ true
    back (inl g) = let x = within_true a e o g in within_yes a (later e f) o x.0 (omega (arith, x.1, w.first))
    back (inr g) = let x = within_true b f o g in within_yes a (later e f) o (omega (arith, x.0)) (omega (arith, x.1, w.second))

    from : within a e o || within b f o ≡ true → within a (later e f) o ≡ true
    from g = back (or_cases (within a e o) (within b f o) g)

-- ---- rows

module _ (s : Bytes) where
  -- in whatever order
  pub covers_permuted : {xs ys : List Row} → Permuted xs ys → (l : TransactionLocator) → any_covers s xs l ≡ any_covers s ys l
  unfolding any_covers
  covers_permuted {xs} {ys} d l =
      same_test _ _
      (λ h. let x = any_in (row_covers s l) xs h in in_any (row_covers s l) (permuted_in d x.1) x.2)
      (λ h. let x = any_in (row_covers s l) ys h in in_any (row_covers s l) (in_permuted d x.1) x.2)

  pub covers_append : (xs ys : List Row) (l : TransactionLocator) → any_covers s (xs ++ ys) l ≡ any_covers s xs l || any_covers s ys l
  unfolding any_covers
  covers_append xs ys l = any_append (row_covers s l) xs ys

  -- a row that is apart from another is apart from whatever does not come before that
  pub apart_on : (x q r : Row) → Apart s x q → row_before s r q ≡ false → Apart s x r
  unfolding Apart ends_before row_before
  apart_on x q r h k = go (holds_or_not (locator_before (key_of s q) (key_of s r)))
    where
      end : TransactionLocator
      end = locator (reference_at s x.at) x.mark

      go : (locator_before (key_of s q) (key_of s r) ≡ true) ⊎ (locator_before (key_of s q) (key_of s r) ≡ false) → locator_before end (key_of s r) ≡ true
      go (inl e) = locator_trans end (key_of s q) (key_of s r) h e
      go (inr e) = subst (λ (l : TransactionLocator). locator_before end l ≡ true) (locator_total (key_of s q) (key_of s r) e k) h

  -- rows in order that are not apart: one block, and the later starts in the earlier or where that ends
  module _ (q r : Row) (p : Proper s q) (h : row_before s r q ≡ false) (k : ends_before s q r ≡ false) where
    one_block : reference_at s q.at ≡ reference_at s r.at
    unfolding row_before ends_before key_of locator
    one_block =
        reference_total (reference_at s q.at) (reference_at s r.at)
        (fails _ (λ e. not_both (is_before (locator (reference_at s q.at) q.mark) (key_of s r) (by_block e)) k))
        (fails _ (λ e. not_both (is_before (key_of s r) (key_of s q) (by_block e)) h))

    starts_later : q.offset ≤ r.offset
    unfolding row_before key_of locator
    starts_later = omega (arith, never)
      where
        never : r.offset < q.offset → ⊥
        never e = not_both (is_before (key_of s r) (key_of s q) (by_offset (sym one_block) e)) h

    reaches : r.offset ≤ q.mark
    unfolding ends_before key_of locator
    reaches = omega (arith, never)
      where
        never : q.mark < r.offset → ⊥
        never e = not_both (is_before (locator (reference_at s q.at) q.mark) (key_of s r) (by_offset one_block e)) k

    -- so the row that goes on to the end of both covers what they cover
    pub covers_widened : (l : TransactionLocator) → row_covers s l (widened q r) ≡ row_covers s l q || row_covers s l r
    unfolding row_covers row_range widened covers new_range new_row
    covers_widened l = rw (within_joined q.offset q.mark r.offset r.mark l.offset starts_later reaches, ← one_block)
        (go (same_reference (reference_at s q.at) l.block))
      where
        go : (t : Bool) → t && (within q.offset q.mark l.offset || within r.offset r.mark l.offset) ≡
            (t && within q.offset q.mark l.offset) || (t && within r.offset r.mark l.offset)
        go true = refl
        go false = refl
