-- The edges of rows put into a table. Assumes nothing.
use mathlib.Core.Path.{◌≡◌, refl, sym, ap, ◌∙◌}
use mathlib.Core.List.{List, [], ◌∷◌, ◌++◌, append_assoc, append-nil}
use Prim.Native.Nat.{ℕ, ◌+◌, ◌*◌, ◌≤◌}
use native.Mathlib.Omega.{arith}
use lib.ListN.{length, drop}
use lib.Seq.{sets, length-sets, drop-drop}
use Rattle.base.specs.Lists.{count_from}
use Rattle.list_row_sort.specs.Rows.{Row, row_at, row_words, rows_from, rows_of}
use Rattle.list_row_sort.proofs.Tables.{rows_put, rows_more}
use Rattle.list_range_rows.proofs.Tables.{put_kept}
use Rattle.list_edge_rows.specs.Edges.{start_edge, end_edge, edges_of, Edged}
use Rattle.list_edge_rows.specs.Step.{put_both}
use Rattle.list_edge_rows.proofs.Edges.{edges_more}

module _ (t : List ℕ) (n place : ℕ) (r : Row) where
  pub both_long : length (put_both t n place r) ≡ length t
  unfolding put_both
  both_long = length-sets _ (3 * (n + 1)) (row_words (end_edge place r)) ∙ length-sets t (3 * n) (row_words (start_edge place r))

  both_kept : drop (3 * (n + 2)) (put_both t n place r) ≡ drop (3 * (n + 2)) t
  unfolding put_both
  both_kept = put_kept _ (n + 1) (n + 2) (end_edge place r) (omega arith) ∙ put_kept t n (n + 2) (start_edge place r) (omega arith)

  both_rows : 3 * n + 6 ≤ length t → rows_of (put_both t n place r) (n + 2) ≡ rows_of t n ++ start_edge place r ∷ end_edge place r ∷ []
  unfolding put_both
  both_rows h =
      let e : n + 1 + 1 ≡ n + 2 = omega arith in
      (rw e at (rows_put (sets t (3 * n) (row_words (start_edge place r))) (n + 1) (end_edge place r)
      (omega (arith, length-sets t (3 * n) (row_words (start_edge place r))))))
      ∙ ap (λ (xs : List Row). xs ++ end_edge place r ∷ []) (rows_put t n (start_edge place r) (omega arith))
      ∙ append_assoc (rows_of t n) (start_edge place r ∷ []) (end_edge place r ∷ [])

module _ (t u : List ℕ) (place n : ℕ) where
  pub edged_start : Edged t u u 0 place n n
  unfolding rows_of rows_from count_from edges_of
  edged_start = record { many = omega arith; long = refl; kept = refl; rows = sym (append-nil (rows_of u n)) }

  pub edged_more : (v : List ℕ) (i k : ℕ) → Edged t u v i place n k → 3 * (n + 2 * (i + 1)) ≤ length u → Edged t u (put_both v k place (row_at t i)) (i + 1)
      place n (k + 2)
  edged_more v i k w h =
      let d : 3 * k + 6 ≡ 3 * (k + 2) = omega arith in
      record {
        many = omega (arith, w.many);
        long = both_long v k place (row_at t i) ∙ w.long;
        kept = both_kept v k place (row_at t i) ∙ (rw d at (sym (drop-drop 6 (3 * k) v) ∙ ap (drop 6) w.kept ∙ drop-drop 6 (3 * k) u));
        rows =
            both_rows v k place (row_at t i) (omega (arith, w.many, w.long))
            ∙ ap (λ (xs : List Row). xs ++ start_edge place (row_at t i) ∷ end_edge place (row_at t i) ∷ []) w.rows
            ∙ append_assoc (rows_of u n) (edges_of place (rows_of t i)) (start_edge place (row_at t i) ∷ end_edge place (row_at t i) ∷ [])
            ∙ ap (λ (xs : List Row). rows_of u n ++ xs) (sym (ap (edges_of place) (rows_more t i) ∙ edges_more place (rows_of t i) (row_at t i)));
      }
