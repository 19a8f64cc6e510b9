-- The edges of the stored blocks, block by block. Assumes nothing.
use mathlib.Core.Path.{◌≡◌, refl, sym, ap, subst, ◌∙◌}
use mathlib.Core.Bool.{Bool}
use mathlib.Core.List.Permᴰ
use mathlib.Core.List.{List, [], ◌∷◌, ◌++◌}
use mathlib.Core.Option.{Option, none, none-ne-some}
use Prim.Native.Nat.{ℕ, ◌+◌, ◌%◌, ◌≤◌, ◌<◌}
use native.Mathlib.Omega.{arith}
use native.Mathlib.Decide.{dec_lt}
use lib.ListN.{length, get_or, length-append, get_or-append}
use lib.Seq.{get_or-append_seam}
use Rattle.base.specs.Lists.{keep, count_from}
use Rattle.base.specs.Le.{Bytes}
use Rattle.base.proofs.Le.{AllBytes}
use Rattle.base.proofs.Lists.{Every, Pairs, length_keep}
use Rattle.base.proofs.Places.{places_every}
use Rattle.record_spec.specs.Reference.{TransactionLocator, TransactionLocatorRange, same_locator}
use Rattle.final_spec.proofs.Fits.{block_fits}
use Rattle.final_block_votes.specs.Walk.{SortedStore, block_at_place}
use Rattle.final_block_votes.proofs.Sorting.{place_entry, place_stored}
use Rattle.list_block_spans.proofs.Fits.{votes_fit}
use Rattle.types.specs.Values.{as_maybe}
use Rattle.list_row_sort.specs.Rows.{Row, rows_of, rows_from, key_of, Inside, SortedAs}
use Rattle.list_row_sort.proofs.Permutations.{in_permuted, permuted_length, permuted_keep}
use Rattle.list_row_sort.proofs.Tables.{inside_permuted}
use Rattle.list_range_rows.specs.Ranges.{Apart, Proper}
use Rattle.list_edge_rows.specs.Edges.{edges_of, edges_from}
use Rattle.list_edge_rows.proofs.Together.{from_more, keep_keep}
use Rattle.list_lanes.specs.Lanes.{Lanes}
use Rattle.list_cuts.specs.Cuts.{in_window, Held}
use Rattle.list_block_edges.specs.Taken.{OwnRows}
use Rattle.list_window.specs.Window.{Gathering, Gathered}
use Rattle.list_cuts.specs.Room.{rows_at, FewAt, Shorter}
use Rattle.list_window.specs.Step.{Enterable, NextTaken}
use Rattle.list_cuts.specs.declared.Window.{Window}
use Rattle.list_window.proofs.Few.{few_at}

-- rows that are right up to a bound are so up to one that is not after it
rows_shorter : (s : Bytes) (last bound other : Option TransactionLocator) (qs : List TransactionLocatorRange) (rs : List Row) → Shorter bound other → OwnRows
    s last bound qs rs → OwnRows s last other qs rs
unfolding Shorter
rows_shorter s last bound other qs rs h r = record {
  proper = r.proper;
  apart = r.apart;
  covering = λ l w. r.covering l
      (record { from = w.from; short = h l w.short });
}

module _ (lanes : Lanes) (s : Bytes) (last : Option TransactionLocator) where
  pub gathering_start : (t : List ℕ) → Gathering lanes s last none t 0 0
  unfolding Inside rows_of rows_from count_from edges_from keep
  gathering_start t =
      record {
        rss = [];
        many = refl;
        right = λ j h. absurd (omega arith);
        held = record { room = omega arith; inside = λ i h. absurd (omega arith); rows = Permᴰ.nil; stands = λ l e. absurd (none-ne-some l e) };
      }

  -- one block more
  pub gathering_more : (u v : List ℕ) (w r : Window) (k : ℕ) → Gathering lanes s last (as_maybe w.bound) u w.n k → NextTaken s (lanes k) last u v w r k
      → Gathering lanes s last (as_maybe r.bound) v r.n (k + 1)
  gathering_more u v w r k g t =
      record {
        rss = g.rss ++ own ∷ [];
        many = length-append g.rss (own ∷ []) ∙ omega (arith, g.many);
        right = λ j h. at j h (dec_lt j k);
        held = subst (λ (es : List Row). Held s last (as_maybe r.bound) v r.n es) (sym edges) (t.held (edges_from 0 g.rss) g.held).held;
      }
    where
      own : List Row
      own = (t.held (edges_from 0 g.rss) g.held).own

      edges : edges_from 0 (g.rss ++ own ∷ []) ≡ edges_from 0 g.rss ++ edges_of k own
      edges =
          let e : 0 + length g.rss ≡ k = omega (arith, g.many) in
          rw e at (from_more 0 g.rss own)

      last_own : get_or (g.rss ++ own ∷ []) k [] ≡ own
      last_own = rw g.many at (get_or-append_seam g.rss own [] [])

      at : (j : ℕ) → j < k + 1 → Dec (j < k) → OwnRows s last (as_maybe r.bound) (lanes j) (get_or (g.rss ++ own ∷ []) j [])
      at j h (yes l) = rw (get_or-append g.rss (own ∷ []) [] j (omega (arith, g.many)))
          (rows_shorter s last _ _ (lanes j) _ (t.short (edges_from 0 g.rss) g.held) (g.right j l))
      at j h (no l) = let e : j ≡ k = omega arith in rw (e, last_own) (t.held (edges_from 0 g.rss) g.held).right

  module _ (bound : Option TransactionLocator) (t : List ℕ) (n : ℕ) where
    -- at most one row of a block is at a locator
    gathering_few : (k : ℕ) → Gathering lanes s last bound t n k → FewAt s t n k
    unfolding FewAt rows_at
    gathering_few k g l =
        omega (
          arith,
          permuted_length (permuted_keep test g.held.rows),
          ap length (keep_keep test (in_window s last bound) (edges_from 0 g.rss)),
          length_keep (in_window s last bound) (keep test (edges_from 0 g.rss)),
          few_at s l 0 g.rss (places_every [] g.rss (λ j h. right j (omega (arith, g.many)))),
          g.many,
        )
      where
        test : Row → Bool
        test e = same_locator (key_of s e) l

        right : (j : ℕ) → j < k → Every (Proper s) (get_or g.rss j []) × Pairs (Apart s) (get_or g.rss j [])
        right j h = ((g.right j h).proper, (g.right j h).apart)

    -- so the next block can be taken
    pub enterable : (order : List ℕ) → SortedStore s order → AllBytes s → (spare : List ℕ) → 16386 ≤ length t → length t ≤ length spare → (k : ℕ) → k < 3072 →
        Gathering lanes s last bound t n k
        → k % 1024 < length order → Enterable s (get_or order (k % 1024) 0) k t spare n
    unfolding SortedStore block_at_place FewAt
    enterable order (c, o) bytes spare wide spared k few g h =
        let stored = place_stored s order (c, o) (k % 1024) h in
        record {
          entry = place_entry s order (c, o) (k % 1024) h;
          votes = votes_fit c s bytes o.in_order _ stored;
          few = (block_fits s bytes _ stored).few_statements;
          can = record { room = g.held.room; spared = omega (arith, g.held.room); inside = g.held.inside };
          few_at = λ l. omega (arith, gathering_few k g l);
          wide = wide;
          spared = spared;
          small = omega arith;
        }

    -- the table sorted at the end
    pub gathered : (v : List ℕ) → Gathering lanes s last bound t n 3072 → SortedAs s n t v → Gathered lanes s last bound v n
    gathered v g a =
        record {
          all = record {
            rss = g.rss;
            many = g.many;
            right = g.right;
            held = record {
              room = omega (arith, g.held.room, a.long);
              inside = inside_permuted s t v n a.permuted g.held.inside;
              rows = Permᴰ.trans a.permuted g.held.rows;
              stands = λ l e. let x = g.held.stands l e in (x.0, (in_permuted a.permuted x.1.0, x.1.1));
            };
          };
          sorted = a.sorted;
        }
