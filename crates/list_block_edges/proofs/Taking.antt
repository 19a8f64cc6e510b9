-- The edges of a block's rows that are in a window, put into a table. Assumes nothing.
use mathlib.Core.Path.{◌≡◌, refl, sym, ap, ◌∙◌}
use mathlib.Core.Bool.{true, false, and-false}
use mathlib.Core.List.{List, [], ◌∷◌, ◌++◌, append_assoc, append-nil}
use mathlib.Core.Option.{Option}
use Prim.Native.Nat.{ℕ, ◌+◌, ◌-◌, ◌*◌, ◌≤◌}
use native.Mathlib.Omega.{arith}
use lib.ListN.{length, drop}
use lib.Seq.{sets, length-sets, drop-drop}
use Rattle.base.specs.Lists.{keep, count_from}
use Rattle.base.specs.Le.{Bytes}
use Rattle.base.proofs.Lists.{keep_append}
use Rattle.record_spec.specs.Reference.{TransactionLocator}
use Rattle.final_spec.specs.NextFinal.{is_after}
use Rattle.list_row_sort.specs.Rows.{Row, row_at, row_words, rows_from, rows_of, key_of}
use Rattle.list_row_sort.proofs.Tables.{rows_put, rows_more}
use Rattle.list_range_rows.proofs.Tables.{put_kept}
use Rattle.list_edge_rows.specs.Edges.{start_edge, end_edge, edges_of}
use Rattle.list_edge_rows.proofs.Edges.{edges_more}
use Rattle.list_order.specs.Row.{is_after_best}
use Rattle.list_cuts.specs.Cuts.{in_window}
use Rattle.list_block_edges.specs.Taken.{EdgesTaken, EdgePut}

-- words that are the same past a place are so past a later one
drop_later : (a b : ℕ) (x y : List ℕ) → a ≤ b → drop a x ≡ drop a y → drop b x ≡ drop b y
drop_later a b x y h e =
    let f : a + (b - a) ≡ b = omega arith in
    rw f at (sym (drop-drop (b - a) a x) ∙ ap (drop (b - a)) e ∙ drop-drop (b - a) a y)

module _ (s : Bytes) (last bound : Option TransactionLocator) where
  -- ---- one edge

  module _ (e : Row) where
    pub before_window : is_after last (key_of s e) ≡ false → in_window s last bound e ≡ false
    unfolding in_window
    before_window h = rw h

    pub after_window : is_after_best bound (key_of s e) ≡ true → in_window s last bound e ≡ false
    unfolding in_window
    after_window h = rw h (and-false (is_after last (key_of s e)))

    pub in_window_lem : is_after last (key_of s e) ≡ true → is_after_best bound (key_of s e) ≡ false → in_window s last bound e ≡ true
    unfolding in_window
    in_window_lem h k = rw (h, k)

    module _ (u : List ℕ) (n : ℕ) where
      pub edge_left : in_window s last bound e ≡ false → EdgePut s last bound e u u n n
      unfolding keep
      edge_left h = record { few = omega arith; long = refl; kept = refl; rows = rw h (sym (append-nil (rows_of u n))) }

      pub edge_put : in_window s last bound e ≡ true → 3 * n + 3 ≤ length u → EdgePut s last bound e u (sets u (3 * n) (row_words e)) n (n + 1)
      unfolding keep
      edge_put h k = record {
        few = omega arith;
        long = length-sets u (3 * n) (row_words e);
        kept = put_kept u n (n + 1) e (omega arith);
        rows = rw h
            (rows_put u n e k);
      }

  -- ---- those of a block

  module _ (t u : List ℕ) (place n : ℕ) where
    pub taken_start : EdgesTaken s last bound t u u 0 place n n
    unfolding rows_of rows_from count_from edges_of keep
    taken_start = record { few = omega arith; long = refl; kept = refl; rows = sym (append-nil (rows_of u n)) }

    module _ (i : ℕ) where
      kept_more : keep (in_window s last bound) (edges_of place (rows_of t (i + 1)))
          ≡ keep (in_window s last bound) (edges_of place (rows_of t i)) ++
          (keep (in_window s last bound) (start_edge place (row_at t i) ∷ []) ++ keep (in_window s last bound) (end_edge place (row_at t i) ∷ []))
      kept_more =
          ap (keep (in_window s last bound)) (ap (edges_of place) (rows_more t i) ∙ edges_more place (rows_of t i) (row_at t i))
          ∙ keep_append (in_window s last bound) (edges_of place (rows_of t i)) (start_edge place (row_at t i) ∷ end_edge place (row_at t i) ∷ [])
          ∙ ap (λ (xs : List Row). keep (in_window s last bound) (edges_of place (rows_of t i)) ++ xs)
          (keep_append (in_window s last bound) (start_edge place (row_at t i) ∷ []) (end_edge place (row_at t i) ∷ []))

      pub taken_more : (v w x : List ℕ) (j k l : ℕ) → EdgesTaken s last bound t u v i place n j → EdgePut s last bound (start_edge place (row_at t i)) v w j k →
          EdgePut s last bound (end_edge place (row_at t i)) w x k l
          → EdgesTaken s last bound t u x (i + 1) place n l
      taken_more v w x j k l a b c =
          record {
            few = omega (arith, a.few, b.few, c.few);
            long = c.long ∙ b.long ∙ a.long;
            kept =
                drop_later (3 * (k + 1)) (3 * (n + 2 * (i + 1))) x w (omega (arith, a.few, b.few)) c.kept
                ∙ drop_later (3 * (j + 1)) (3 * (n + 2 * (i + 1))) w v (omega (arith, a.few)) b.kept
                ∙ drop_later (3 * (n + 2 * i)) (3 * (n + 2 * (i + 1))) v u (omega arith) a.kept;
            rows =
                c.rows
                ∙ ap (λ (xs : List Row). xs ++ keep (in_window s last bound) (end_edge place (row_at t i) ∷ []))
                (b.rows ∙ ap (λ (xs : List Row). xs ++ keep (in_window s last bound) (start_edge place (row_at t i) ∷ [])) a.rows)
                ∙ append_assoc (rows_of u n ++ keep (in_window s last bound) (edges_of place (rows_of t i))) _ _
                ∙ append_assoc (rows_of u n) _ _
                ∙ ap (λ (xs : List Row). rows_of u n ++ xs) (sym kept_more);
          }
