-- What the answer means, as claims. Assumes nothing: these are definitions.
use Rattle.std.specs.Prelude.{◌≡◌, ◌↔◌, true, false, map}
use Rattle.base.specs.Lists.{sum_of}
use Rattle.base.specs.Checks.{refused, answered}
use Rattle.committee.specs.Committee.{Committee, broken, is_quorum, get_stake}
use Rattle.committee_set.specs.AuthoritySet.{AuthoritySet, nobody, united, set_of, stake_of}
use Rattle.ring_owners.specs.Rung.{Suffices, Rung}
use Rattle.ring_owners.specs.Ranked.{rung, Ring, ring_of, ring}

-- the set that is answered is the one that 02 wants, with its stake
unfoldable pub RungIsIt : Type 0
RungIsIt = (c : Committee) → broken c ≡ false → (v r : AuthoritySet) (g : Ring) → ring c v r ≡ answered g → Rung c v r g.owners ×
    (g.stake ≡ stake_of c g.owners)

-- and there is no other
unfoldable pub OnlyRung : Type 0
OnlyRung = (c : Committee) → broken c ≡ false → (v r w : AuthoritySet) → Rung c v r w → ring c v r ≡ answered (ring_of c w)

-- 02: "If no reachable set suffices it answers 60"
unfoldable pub NoneSuffices : Committee → AuthoritySet → AuthoritySet → Type 0
NoneSuffices c v r = (w : AuthoritySet) → Suffices c v r w → ⊥

unfoldable pub RefusedMeant : Type 0
RefusedMeant = (c : Committee) → broken c ≡ false → (v r : AuthoritySet) → (ring c v r ≡ refused 60) ↔ NoneSuffices c v r

-- 02: "that holds exactly when all reachable owners together with the voters miss quorum"
unfoldable pub NoneExactly : Type 0
NoneExactly = (c : Committee) → broken c ≡ false → (v r : AuthoritySet) → NoneSuffices c v r ↔ (is_quorum c (stake_of c (united v r)) ≡ false)

-- where the counted voters hold quorum already, nobody is rung
unfoldable pub NobodyRung : Type 0
NobodyRung = (c : Committee) → broken c ≡ false → (v r : AuthoritySet) → is_quorum c (stake_of c v) ≡ true → ring c v r ≡ answered (ring_of c nobody)

-- the stake is the sum of those that were rung one after the other
unfoldable pub StakeSummed : Type 0
StakeSummed = (c : Committee) → broken c ≡ false → (v r : AuthoritySet) → stake_of c (set_of (rung c v r)) ≡ sum_of (map (get_stake c) (rung c v r))

pub record Claims : Type 0 where
  pub rung_is_it : RungIsIt
  pub only_rung : OnlyRung
  pub refused_meant : RefusedMeant
  pub none_exactly : NoneExactly
  pub nobody_rung : NobodyRung
  pub stake_summed : StakeSummed
