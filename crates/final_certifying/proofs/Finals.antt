-- Quorum of the authors of the certifying blocks is finality. Assumes nothing.
use mathlib.Core.Path.{◌≡◌}
use mathlib.Core.List.{map}
use Rattle.base.specs.Le.{Bytes}
use Rattle.committee.specs.Committee.{Stake, Committee, total_stake, quorum_of, is_quorum}
use Rattle.committee_set.specs.AuthoritySet.{AuthoritySet, set_of, stake_of}
use Rattle.record_spec.specs.Reference.{TransactionLocator}
use Rattle.record_spec.specs.Block.{author}
use Rattle.final_spec.specs.Finality.{blocks_of}
use Rattle.final_readings_spec.specs.Readings.{Reading, certifiers_in, is_final_in}

pub final_in_by : (reading : Reading) (c : Committee) (s : Bytes) (l : TransactionLocator) (t : Stake) (v : AuthoritySet) → t ≡ total_stake c
    → v ≡ set_of (map author (certifiers_in reading c (blocks_of s) l)) → quorum_of t (stake_of c v) ≡ is_final_in reading c (blocks_of s) l
unfolding is_final_in is_quorum
final_in_by reading c s l t v e f = rw (e, f)
