-- The lanes: what each of 1,024 blocks votes for, then what each rejects, then the shares of each. Assumes nothing: these are definitions.
use Rattle.std.specs.Prelude.{ℕ, ◌%◌, Bool, true, false, ◌&&◌, List, [], ltb, length}
use Rattle.base.specs.Lists.{pick}
use Rattle.base.specs.Le.{Bytes}
use Rattle.record_spec.specs.Reference.{TransactionLocatorRange}
use Rattle.final_readings_spec.specs.declared.Reading.{Reading}
use Rattle.final_readings_spec.specs.declared.Reading.TheVariants.{Old, Withdrawing}
use Rattle.list_readings_spec.specs.Answers.{is_ordinary}
use Rattle.final_block_votes.specs.Walk.{block_at_place}
use Rattle.list_kind_ranges.specs.Kinds.{kind_ranges}
use Rattle.list_kind_ranges.specs.declared.RangeKind.{RangeKind}
use Rattle.list_kind_ranges.specs.declared.RangeKind.TheVariants.{Votes, Rejects, Shares}
use Rattle.list_lanes.specs.declared.Wanted.{Wanted}

-- which kind of ranges a lane has
unfoldable pub lane_kind : ℕ → RangeKind
lane_kind k = pick (ltb k 1024) Votes (pick (ltb k 2048) Rejects Shares)

-- rejects count where owners may withdraw
unfoldable pub wants_rejects : Reading → Bool
wants_rejects Old = false
wants_rejects Withdrawing = true

-- votes are always wanted
unfoldable pub wants_lane : Wanted → ℕ → Bool
wants_lane w k = pick (ltb k 1024) true (pick (ltb k 2048) (wants_rejects w.reading) (is_ordinary w.list))

-- the ranges of a lane, by the place of its block in ascending reference order; a lane that is not wanted, or has no block, has none
unfoldable pub lane_ranges : Wanted → Bytes → List ℕ → ℕ → List TransactionLocatorRange
lane_ranges w s order k = pick (wants_lane w k && ltb (k % 1024) (length order)) (kind_ranges (lane_kind k) (block_at_place s order (k % 1024))) []

abbrev pub Lanes : Type 0
Lanes = ℕ → List TransactionLocatorRange
