-- The edges of one block more. Assumes nothing.
use mathlib.Core.Path.{◌≡◌, sym, ap, subst, ◌∙◌}
use mathlib.Core.List.Permᴰ
use mathlib.Core.List.{List, [], ◌∷◌, ◌++◌}
use mathlib.Core.Option.{Option}
use Prim.Native.Nat.{ℕ, ◌+◌, ◌*◌, ◌≤◌, ◌<◌}
use native.Mathlib.Omega.{arith}
use lib.ListN.{length}
use borrow.Rule.Slice.PartMut.{put_mid, take_put}
use Rattle.base.specs.Lists.{keep, ◌∈◌}
use Rattle.base.specs.Le.{Bytes}
use Rattle.base.proofs.Members.{in_left}
use Rattle.base.proofs.Lists.{Every, none_of, and, every_append, every_keep, keep_append}
use Rattle.record_spec.specs.Reference.{TransactionLocator}
use Rattle.record_spec.specs.Block.{Block}
use Rattle.list_row_sort.specs.Rows.{Row, rows_of, Inside}
use Rattle.list_row_sort.proofs.Permutations.{permuted_same}
use Rattle.list_row_sort.proofs.Tables.{rows_front, rows_every, every_row}
use Rattle.list_range_rows.specs.Ranges.{new_row, Proper}
use Rattle.list_edge_rows.specs.Edges.{start_edge, end_edge, edges_of}
use Rattle.list_kind_ranges.specs.Kinds.{kind_ranges}
use Rattle.list_own_ranges.specs.Own.{OwnRanges}
use Rattle.list_kind_ranges.specs.declared.RangeKind.{RangeKind}
use Rattle.list_cuts.specs.Cuts.{in_window, Held}
use Rattle.list_block_edges.specs.Taken.{EdgesTaken, Takeable, OwnRows, BlockTaken}

-- the first rows of a table whose words past them changed
pub rows_before : (t w : List ℕ) (n k : ℕ) → 3 * n ≤ length t → rows_of (put_mid (3 * n) k t w) n ≡ rows_of t n
rows_before t w n k h = rows_front (put_mid (3 * n) k t w) t n (take_put (3 * n) k t w h)

module _ (kind : RangeKind) (s : Bytes) (b : Block) where
  -- the rows that own_ranges left are right, and their edges can be taken
  rows_right : (last bound : Option TransactionLocator) (t u : List ℕ) (m : ℕ) → OwnRanges kind last bound s b t u m → OwnRows s last bound
      (kind_ranges kind b) (rows_of u m)
  rows_right last bound t u m o = record { proper = o.proper; apart = o.apart; covering = o.covering }

  pub rows_takeable : (last bound : Option TransactionLocator) (t u e : List ℕ) (m place n : ℕ) → OwnRanges kind last bound s b t u m → 3 * length
      b.statements ≤ length t → 3 * (n + 2 * length b.statements) ≤ length e → place < 9223372036854775808 → Takeable s u e m place n
  unfolding Inside
  rows_takeable last bound t u e m place n o h k l =
      record {
        fit = record { rows = omega (arith, o.few, o.long); room = omega (arith, o.few); small = l };
        inside = λ i j. (every_row u m o.proper i j).inside;
      }

  module _ (last bound : Option TransactionLocator) (place n : ℕ) where
    pub block_taken : (t u e f v : List ℕ) (m k : ℕ) → OwnRanges kind last bound s b t u m → EdgesTaken s last bound u f v m place n k → length f ≡ length e →
        rows_of f n ≡ rows_of e n → BlockTaken kind s b last bound e v place n k
    block_taken t u e f v m k o w l r =
        record {
          few = omega (arith, w.few, o.few);
          long = w.long ∙ l;
          own = rows_of u m;
          right = rows_right last bound t u m o;
          rows = w.rows ∙ ap (λ (xs : List Row). xs ++ keep (in_window s last bound) (edges_of place (rows_of u m))) r;
        }

  edges_inside : (place : ℕ) (rs : List Row) → Every (Proper s) rs → Every (λ (e : Row). e.at + 48 ≤ length s) (edges_of place rs)
  unfolding edges_of start_edge end_edge new_row
  edges_inside place [] none_of = none_of
  edges_inside place (r ∷ rs) (and h hs) = and h.inside (and h.inside (edges_inside place rs hs))

  -- what is held with the edges of the block
  pub held_more : (last bound : Option TransactionLocator) (u v : List ℕ) (place n k : ℕ) (w : BlockTaken kind s b last bound u v place n k) (es : List Row) →
      Held s last bound u n es → 3 * (n + 2 * length b.statements) ≤ length u
      → Held s last bound v k (es ++ edges_of place w.own)
  unfolding Inside
  held_more last bound u v place n k w es held h =
      record {
        room = omega (arith, w.few, w.long);
        inside = λ i l. every_row {P = λ (e : Row). e.at + 48 ≤ length s} v k inside i l;
        rows =
            Permᴰ.trans (permuted_same w.rows)
            (Permᴰ.trans (Permᴰ.append_right (keep (in_window s last bound) (edges_of place w.own)) held.rows)
            (permuted_same (sym (keep_append (in_window s last bound) es (edges_of place w.own)))));
        stands = λ l e. let x = held.stands l e in (x.0, (subst (λ (xs : List Row). x.0 ∈ xs) (sym w.rows) (in_left _ x.1.0), x.1.1));
      }
    where
      inside : Every (λ (e : Row). e.at + 48 ≤ length s) (rows_of v k)
      inside =
          subst (λ (xs : List Row). Every (λ (e : Row). e.at + 48 ≤ length s) xs) (sym w.rows)
          (every_append (rows_of u n) _ (rows_every u n held.inside) (every_keep (in_window s last bound) _ (edges_inside place w.own w.right.proper)))
