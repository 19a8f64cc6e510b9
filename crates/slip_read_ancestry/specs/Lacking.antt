-- Machinery for the contracts of inner functions: for which records an ancestor is missing. Assumes nothing: these are definitions.
use Rattle.std.specs.Prelude.{ℕ, ◌<◌, ◌≡◌, Bool, true, false, List, eqb, length, get_or}
use Rattle.base.specs.Lists.{pick}
use Rattle.base.specs.Le.{Bytes}
use Rattle.committee.specs.Committee.{Committee, broken}
use Rattle.final_readings_spec.specs.Readings.{Reading}
use Rattle.slip_spec.specs.Supplied.{supplied_blocks, right_blocks}
use Rattle.slip_spec.specs.Ancestry.{in_ancestry, lacks, lacks_ancestor}
use Rattle.slip_read_records.specs.Places.{block_at_place}
use Rattle.slip_read_paths.specs.declared.Led.{Led}
use Rattle.slip_read_paths.specs.declared.Led.TheVariants.{To, Nowhere, NotGiven}

-- the records are right by themselves, under some committee
unfoldable pub Right : Bytes → Type 0
Right q = (c : Committee) × ((broken c ≡ false) × (right_blocks c (supplied_blocks q) ≡ true))

-- the include is noted as one that lacks an ancestor, or is itself missing
unfoldable pub lost_at : List ℕ → Led → Bool
lost_at t (To j) = eqb (get_or t j 0) 1
lost_at t Nowhere = true
lost_at t NotGiven = true

-- for the first n places it is noted whether an ancestor of the block there is missing
pub record Lacking (q : Bytes) (order : List ℕ) (n : ℕ) (t : List ℕ) : Type 0 where
  pub at : (j : ℕ) → j < n → get_or t j 0 ≡ pick (in_ancestry (lacks (supplied_blocks q)) (supplied_blocks q) (block_at_place q order j)) 1 0

-- for every place, in a reading
pub record LackingIn (reading : Reading) (q : Bytes) (order : List ℕ) (t : List ℕ) : Type 0 where
  pub at : (j : ℕ) → j < length order → get_or t j 0 ≡ pick (lacks_ancestor reading (supplied_blocks q) (block_at_place q order j)) 1 0
