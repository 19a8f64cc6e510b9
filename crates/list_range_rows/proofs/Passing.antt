-- The pass over the rows of a table. Assumes nothing.
use mathlib.Core.Path.{◌≡◌, refl, sym, ap, subst, ◌∙◌}
use mathlib.Core.Bool.{Bool, false, ◌||◌, or-false}
use mathlib.Core.List.{List, [], ◌∷◌}
use Prim.Native.Nat.{ℕ, ◌+◌, ◌-◌, ◌*◌, ◌≤◌, ◌<◌}
use native.Mathlib.Omega.{arith}
use lib.ListN.{drop}
use lib.Seq.{drop-drop}
use Rattle.base.specs.Lists.{any_of, count_from}
use Rattle.base.specs.Le.{Bytes}
use Rattle.base.proofs.Lists.{Every, none_of, Pairs, no_pairs}
use Rattle.record_spec.specs.Reference.{TransactionLocator}
use Rattle.list_row_sort.specs.Rows.{Row, row_at, rows_from, rows_of, row_before}
use Rattle.list_row_sort.proofs.Tables.{rows_more, sorted_at, every_row, row_dropped}
use Rattle.list_range_rows.specs.Ranges.{row_covers, any_covers, Apart, Proper, Joinable, RowsJoined}
use Rattle.list_range_rows.specs.Step.{join_onto, RowJoined}
use Rattle.list_range_rows.proofs.Ranges.{covers_append}
use Rattle.list_range_rows.proofs.Joining.{proper_join, below_join, pairs_join, covers_join}

-- no row from index i on comes before one of the first m of another table
abbrev pub Below : Bytes → List ℕ → List ℕ → ℕ → ℕ → ℕ → Type 0
Below s t u n m i = (k : ℕ) → i ≤ k → k < n → Every (λ r. row_before s (row_at t k) r ≡ false) (rows_of u m)

-- the row at an index past what was joined is still that of the table
pub row_kept : (t u : List ℕ) (i k : ℕ) → drop (3 * i) u ≡ drop (3 * i) t → i ≤ k → row_at u k ≡ row_at t k
row_kept t u i k e h =
    let f : i + (k - i) ≡ k = omega arith in
    let a = rw f at (row_dropped u i (k - i)) in
    let b = rw f at (row_dropped t i (k - i)) in
    sym a ∙ ap (λ (l : List ℕ). row_at l (k - i)) e ∙ b

module _ (s : Bytes) (n : ℕ) (t : List ℕ) where
  pub joined_start : RowsJoined s 0 t t 0
  unfolding rows_of rows_from count_from
  joined_start = record { few = omega arith; long = refl; kept = refl; proper = none_of; apart = no_pairs; covering = λ l. refl }

  pub below_start : Below s t t n 0 0
  unfolding rows_of rows_from count_from
  below_start k h l = none_of

  module _ (can : Joinable s n t) (u v : List ℕ) (m i k : ℕ) (h : i < n) (j : RowsJoined s i t u m) (b : Below s t u n m i) (r : RowJoined s u v m i k) where
    own : row_at u i ≡ row_at t i
    own = row_kept t u i i j.kept (omega arith)

    rows : rows_of v k ≡ join_onto s (rows_of u m) (row_at t i)
    rows = r.rows ∙ ap (join_onto s (rows_of u m)) own

    one : (l : TransactionLocator) → any_covers s (row_at t i ∷ []) l ≡ row_covers s l (row_at t i)
    unfolding any_covers any_of
    one l = or-false (row_covers s l (row_at t i))

    before : Every (λ q. row_before s (row_at t i) q ≡ false) (rows_of u m)
    before = b i (omega arith) h

    pub joined_more : RowsJoined s (i + 1) t v k
    joined_more =
        let d : 3 * i + 3 ≡ 3 * (i + 1) = omega arith in
        record {
          few = omega (arith, r.few, j.few);
          long = r.long ∙ j.long;
          kept = r.kept ∙ (rw d at (sym (drop-drop 3 (3 * i) u) ∙ ap (drop 3) j.kept ∙ drop-drop 3 (3 * i) t));
          proper = subst (λ (xs : List Row). Every (Proper s) xs) (sym rows)
              (proper_join s (rows_of u m) (row_at t i) j.proper (every_row t n can.proper i h));
          apart = subst (λ (xs : List Row). Pairs (Apart s) xs) (sym rows) (pairs_join s (rows_of u m) (row_at t i) j.apart before);
          covering = λ l.
              ap (λ (xs : List Row). any_covers s xs l) rows
              ∙ covers_join s l (rows_of u m) (row_at t i) j.proper before
              ∙ ap (λ (x : Bool). x || row_covers s l (row_at t i)) (j.covering l)
              ∙ sym (ap (λ (xs : List Row). any_covers s xs l) (rows_more t i) ∙ covers_append s (rows_of t i) (row_at t i ∷ []) l ∙ ap
              (λ (x : Bool). any_covers s (rows_of t i) l || x) (one l));
        }

    pub below_more : Below s t v n k (i + 1)
    below_more x o l = subst (λ (xs : List Row). Every (λ q. row_before s (row_at t x) q ≡ false) xs) (sym rows)
        (below_join s (row_at t x) (rows_of u m) (row_at t i) (b x (omega arith) l) (sorted_at s t n i x can.sorted (omega arith) l))
