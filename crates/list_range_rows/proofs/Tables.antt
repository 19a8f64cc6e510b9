-- A row of a table joined to the first m: what each way to write it leaves. Assumes nothing.
use mathlib.Core.Path.{◌≡◌, refl, sym, ap, ◌∙◌}
use mathlib.Core.Bool.{true, false}
use mathlib.Core.List.{List, [], ◌∷◌, ◌++◌, append_assoc}
use Prim.Native.Nat.{ℕ, ◌+◌, ◌-◌, ◌*◌, ◌≤◌, ◌<◌}
use native.Mathlib.Omega.{arith}
use borrow.Author.Tests.{lt-ltb, le-ltb}
use lib.ListN.{length, drop}
use lib.Seq.{sets, length-sets, drop-set-lt}
use Rattle.base.specs.Lists.{count_from}
use Rattle.base.specs.Le.{Bytes}
use Rattle.list_row_sort.specs.Rows.{Row, row_at, row_words, rows_from, rows_of}
use Rattle.list_row_sort.proofs.Tables.{rows_put, rows_more}
use Rattle.list_range_rows.specs.Ranges.{new_row, ends_before}
use Rattle.list_range_rows.specs.Step.{later, widened, join_last, join_onto, RowJoined}
use Rattle.list_range_rows.proofs.Joining.{join_last_lem}

-- a row put among the first k words of rows leaves those past them
pub put_kept : (t : List ℕ) (j k : ℕ) (r : Row) → j < k → drop (3 * k) (sets t (3 * j) (row_words r)) ≡ drop (3 * k) t
unfolding row_words
put_kept t j k r h = drop-set-lt (3 * k) _ _ r.mark (omega arith) ∙ drop-set-lt (3 * k) _ _ r.offset (omega arith) ∙ drop-set-lt (3 * k) t _ r.at
    (omega arith)

rows_zero : (t : List ℕ) → rows_of t 0 ≡ []
unfolding rows_of rows_from count_from
rows_zero t = refl

-- the last of the first m
rows_last : (t : List ℕ) (m : ℕ) → 0 < m → rows_of t m ≡ rows_of t (m - 1) ++ row_at t (m - 1) ∷ []
rows_last t m h = let e : m - 1 + 1 ≡ m = omega arith in rw e at (rows_more t (m - 1))

module _ (s : Bytes) (t : List ℕ) (m i : ℕ) (most : m ≤ i) (room : 3 * i + 3 ≤ length t) where
  -- the first row
  pub first_joined : m ≡ 0 → RowJoined s t (sets t (3 * 0) (row_words (row_at t i))) m i 1
  unfolding join_onto
  first_joined e =
      record {
        few = omega arith;
        long = length-sets t (3 * 0) (row_words (row_at t i));
        kept = put_kept t 0 (i + 1) (row_at t i) (omega arith);
        rows = rw (e, rows_zero t) (rows_put t 0 (row_at t i) (omega arith) ∙ rw (rows_zero t));
      }

  module _ (some : 0 < m) where
    onto : join_onto s (rows_of t m) (row_at t i) ≡ rows_of t (m - 1) ++ join_last s (row_at t (m - 1)) (row_at t i)
    onto = rw (rows_last t m some) (join_last_lem s (rows_of t (m - 1)) (row_at t (m - 1)) (row_at t i))

    -- one more
    pub more_joined : ends_before s (row_at t (m - 1)) (row_at t i) ≡ true → RowJoined s t (sets t (3 * m) (row_words (row_at t i))) m i (m + 1)
    unfolding join_last
    more_joined e =
        record {
          few = omega arith;
          long = length-sets t (3 * m) (row_words (row_at t i));
          kept = put_kept t m (i + 1) (row_at t i) (omega arith);
          rows =
              rows_put t m (row_at t i) (omega arith)
              ∙ ap (λ (xs : List Row). xs ++ row_at t i ∷ []) (rows_last t m some)
              ∙ append_assoc (rows_of t (m - 1)) (row_at t (m - 1) ∷ []) (row_at t i ∷ [])
              ∙ sym (rw e at onto);
        }

    -- the last one goes on
    pub wider_joined : ends_before s (row_at t (m - 1)) (row_at t i) ≡ false → (row_at t (m - 1)).mark < (row_at t i).mark
        → RowJoined s t (sets t (3 * (m - 1)) (row_words (new_row (row_at t (m - 1)).at (row_at t (m - 1)).offset (row_at t i).mark))) m i m
    unfolding join_last widened later new_row
    wider_joined e h =
        let r : Row = new_row (row_at t (m - 1)).at (row_at t (m - 1)).offset (row_at t i).mark in
        let f : m - 1 + 1 ≡ m = omega arith in
        record {
          few = omega arith;
          long = length-sets t (3 * (m - 1)) (row_words r);
          kept = put_kept t (m - 1) (i + 1) r (omega arith);
          rows = (rw f at (rows_put t (m - 1) r (omega arith))) ∙ sym (rw (e, lt-ltb (row_at t (m - 1)).mark (row_at t i).mark h) at onto);
        }

    -- or ends no later
    pub same_joined : ends_before s (row_at t (m - 1)) (row_at t i) ≡ false → (row_at t i).mark ≤ (row_at t (m - 1)).mark → RowJoined s t t m i m
    unfolding join_last widened later new_row
    same_joined e h =
        record {
          few = omega arith;
          long = refl;
          kept = refl;
          rows = rows_last t m some ∙ sym (rw (e, le-ltb (row_at t (m - 1)).mark (row_at t i).mark h) at onto);
        }
