-- Where a sweep stands at the end of a stretch. Assumes nothing: these are definitions.
use Rattle.std.specs.Prelude.{ℕ, ◌≡◌, List}
use Rattle.base.specs.Le.{Bytes}
use Rattle.committee.specs.Committee.{Committee}
use Rattle.record_spec.specs.Reference.{TransactionLocator, locator}
use Rattle.types.specs.Values.{as_locator}
use Rattle.final_spec.specs.Finality.{blocks_of}
use Rattle.list_stretches_spec.specs.Stretches.{stretch_end}
use Rattle.list_lanes.specs.Lanes.{lane_ranges}
use Rattle.list_lanes.specs.declared.Wanted.{Wanted}
use Rattle.list_sweep.specs.Sweep.{Stands}
use Rattle.list_sweep.specs.declared.Sweep as sweep
use Rattle.list_marked.specs.Marked.{list_for}

-- the sweep stands at the end of the stretch of a locator
pub record RunOn (w : Wanted) (c : Committee) (s : Bytes) (order : List ℕ) (l : TransactionLocator) (t marks : List ℕ) (r : sweep.Sweep) : Type 0 where
  pub stands : Stands (lane_ranges w s order) s t marks r
  pub ends : as_locator r.here ≡ locator l.block (stretch_end (blocks_of s) (list_for w c (blocks_of s)) l)
