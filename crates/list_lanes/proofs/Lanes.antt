-- The ranges of a lane. Assumes nothing.
use mathlib.Core.Path.{◌≡◌, refl}
use mathlib.Core.Bool.{Bool, true, false, ◌&&◌}
use mathlib.Core.List.{List, []}
use Prim.Native.Nat.{ℕ, ◌%◌, ◌≤◌, ◌<◌}
use lib.ListN.{length, get_or}
use borrow.Author.Tests.{lt-ltb, le-ltb}
use Rattle.base.specs.Le.{Bytes}
use Rattle.store_spec.specs.Entry.{block_at}
use Rattle.final_block_votes.specs.Walk.{block_at_place}
use Rattle.base.specs.Lists.{pick}
use Rattle.list_kind_ranges.specs.Kinds.{kind_ranges}
use Rattle.list_lanes.specs.Lanes.{lane_kind, wants_lane, lane_ranges}
use Rattle.list_lanes.specs.declared.Wanted.{Wanted}

module _ (w : Wanted) (s : Bytes) (order : List ℕ) (k : ℕ) where
  pub unwanted_lane : wants_lane w k ≡ false → lane_ranges w s order k ≡ []
  unfolding lane_ranges
  unwanted_lane h = rw h

  pub lane_past : length order ≤ k % 1024 → lane_ranges w s order k ≡ []
  unfolding lane_ranges
  lane_past h = rw (le-ltb (k % 1024) (length order) h) (go (wants_lane w k))
    where
      go : (t : Bool) → pick (t && false) (kind_ranges (lane_kind k) (block_at_place s order (k % 1024))) [] ≡ []
      go true = refl
      go false = refl

  pub lane_of : wants_lane w k ≡ true → k % 1024 < length order → lane_ranges w s order k ≡ kind_ranges (lane_kind k) (block_at s (get_or order (k % 1024) 0))
  unfolding lane_ranges block_at_place
  lane_of h l = rw (h, lt-ltb (k % 1024) (length order) l)
