-- Quorum and valid stake are the Rust's thresholds, and the course committee's are 01's. Assumes nothing: these are definitions.
use Rattle.std.specs.Prelude.{◌*◌, ◌/◌, ◌≡◌, ltb, leb}
use Rattle.base.specs.Checks.{answered}
use Rattle.committee.specs.Committee.{Stake, new_committee, quorum_of, valid_of, is_quorum, course_committee}

pub record Claims : Type 0 where
  -- 01: "these equal `is_quorum` and `is_valid`": committee.rs compares with `2 * total_stake / 3` and `total_stake / 3`
  pub quorum : (t s : Stake) → quorum_of t s ≡ ltb (2 * t / 3) s
  pub valid : (t s : Stake) → valid_of t s ≡ ltb (t / 3) s
  -- 01: "(T = 17, quorum from 12)"
  pub course_total : new_committee course_committee ≡ answered 17
  pub course_quorum : (s : Stake) → is_quorum course_committee s ≡ leb 12 s
