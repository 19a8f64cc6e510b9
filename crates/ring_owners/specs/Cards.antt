-- Whom to ring at small values, one table. Assumes nothing: these are definitions.
use Rattle.std.specs.Prelude.{ℕ, ◌≡◌, [], ◌∷◌}
use Rattle.base.specs.Checks.{refused, answered}
use Rattle.committee.specs.Committee.{course_committee}
use Rattle.committee_set.specs.AuthoritySet.{AuthoritySet}
use Rattle.ring_owners.specs.Ranked.{ring}

-- owners below 64
abbrev pub set : ℕ → AuthoritySet
set w = record { low = w; high = 0 }

pub record Cards : Type 0 where
  -- stake 5 has voted, all can be reached, unknown numbers too: 3, 3 and 2, the first of stake 2 (12 is quorum)
  pub course : ring course_committee (set 1) (set 1023) ≡ answered (record { owners = set 14; stake = 8 })
  -- one owner of larger stake is enough, though a lower number could be had
  pub larger : ring (1 ∷ 4 ∷ 5 ∷ 2 ∷ []) (set 2) (set 13) ≡ answered (record { owners = set 4; stake = 5 })
  -- equal stakes: the lowest numbers
  pub lowest : ring (4 ∷ 4 ∷ 4 ∷ 4 ∷ []) (set 8) (set 7) ≡ answered (record { owners = set 3; stake = 8 })
  -- quorum already: nobody
  pub held : ring course_committee (set 39) (set 64) ≡ answered (record { owners = set 0; stake = 0 })
  -- 5, 1 and 1 miss quorum
  pub missed : ring course_committee (set 1) (set 96) ≡ refused 60
  -- nobody can be reached but unknown numbers
  pub unknown : ring course_committee (set 1) (record { low = 128; high = 1 }) ≡ refused 60
  -- no committee
  pub broken : ring (5 ∷ 0 ∷ []) (set 1) (set 3) ≡ refused 5
