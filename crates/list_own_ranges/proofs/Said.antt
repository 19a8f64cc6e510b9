-- A record that is a part of a store may be asked, and the rows say which locators its block votes for, or rejects. Assumes nothing.
use mathlib.Core.Path.{◌≡◌, ◌∙◌}
use mathlib.Core.Bool.{true}
use mathlib.Core.List.{List}
use mathlib.Core.Option.{none}
use Prim.Native.Nat.{ℕ, ◌≤◌}
use native.Mathlib.Omega.{arith}
use native.Mathlib.Decide.{dec_le}
use lib.ListN.{length, take, drop}
use lib.Seq.{length-take-le, take_all, take-length}
use Rattle.base.specs.Le.{Bytes}
use Rattle.record_spec.specs.Reference.{TransactionLocator}
use Rattle.record_spec.specs.Block.{Block}
use Rattle.record_spec.specs.Record.{well_formed, block_in}
use Rattle.final_spec.specs.Voters.{votes_for}
use Rattle.final_readings_spec.specs.Rejecting.{rejects}
use Rattle.list_block_spans.specs.Joined.{VotesFit, joined_at, joined_spans}
use Rattle.list_block_spans.specs.Ranges.{ranges_at, ranges_of}
use Rattle.list_block_spans.proofs.Joining.{joined_votes}
use Rattle.list_block_spans.proofs.Rejecting.{rejected_covers}
use Rattle.list_row_sort.specs.Rows.{Row, rows_of, Sorted, Permuted}
use Rattle.list_range_rows.specs.Ranges.{any_covers}
use Rattle.list_edge_rows.specs.Edges.{edges_of, open_at}
use Rattle.list_edge_rows.proofs.Said.{edges_say}
use Rattle.list_kind_ranges.specs.Kinds.{kind_ranges_at, kind_ranges}
use Rattle.list_own_ranges.specs.Own.{Recorded, OwnRanges}
use Rattle.list_kind_ranges.specs.declared.RangeKind.TheVariants.{Votes, Rejects}
use Rattle.list_reach.proofs.Reach.{within_all}

-- the bytes from a position on, n of them or as many as there are
pub recorded_part : (s : Bytes) (start n : ℕ) → well_formed (take n (drop start s)) ≡ true → VotesFit (block_in (take n (drop start s))) → Recorded s start
    (take n (drop start s))
recorded_part s start n w v = record { formed = w; fits = v; stands = go (dec_le n (length (drop start s))) }
  where
    go : Dec (n ≤ length (drop start s)) → take (length (take n (drop start s))) (drop start s) ≡ take n (drop start s)
    go (yes h) = rw (length-take-le n (drop start s) h)
    go (no h) = rw (take_all n (drop start s) (omega arith)) (take-length (drop start s))

module _ (s : Bytes) (b : Block) (t u : List ℕ) (m : ℕ) where
  -- some row covers a locator exactly where the block votes for it
  pub own_votes : OwnRanges Votes none none s b t u m → (l : TransactionLocator) → any_covers s (rows_of u m) l ≡ votes_for b l
  unfolding kind_ranges kind_ranges_at ranges_at joined_at joined_spans
  own_votes w l = w.covering l (within_all l) ∙ joined_votes b l

  -- or, but for the last offset, which no vote reaches, rejects it
  pub own_rejects : OwnRanges Rejects none none s b t u m → (l : TransactionLocator) → (l.offset ≡ 18446744073709551615 → ⊥) → any_covers s (rows_of u m) l ≡
      rejects b l
  unfolding kind_ranges kind_ranges_at ranges_of
  own_rejects w l h = w.covering l (within_all l) ∙ rejected_covers b l h

  -- the same from the edges of the rows, in ascending order: the last one at or before the locator is a beginning
  pub edges_vote : OwnRanges Votes none none s b t u m → (k : ℕ) (es : List Row) → Permuted es (edges_of k (rows_of u m)) → Sorted s es →
      (l : TransactionLocator) → open_at s es l ≡ votes_for b l
  edges_vote w k es d o l = edges_say s k (rows_of u m) es w.proper w.apart d o l ∙ own_votes w l

  pub edges_reject : OwnRanges Rejects none none s b t u m → (k : ℕ) (es : List Row) → Permuted es (edges_of k (rows_of u m)) → Sorted s es →
      (l : TransactionLocator)
      → (l.offset ≡ 18446744073709551615 → ⊥) → open_at s es l ≡ rejects b l
  edges_reject w k es d o l h = edges_say s k (rows_of u m) es w.proper w.apart d o l ∙ own_rejects w l h
