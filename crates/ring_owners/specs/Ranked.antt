-- Whom to ring, worked out: by stake, largest first, until quorum. Assumes nothing: these are definitions.
use Rattle.std.specs.Prelude.{◌+◌, Bool, not, ◌&&◌, ◌||◌, List, [], ◌∷◌, ltb, eqb}
use Rattle.base.specs.Lists.{pick, keep, count_from}
use Rattle.base.specs.Checks.{Check, ◌⇒◌, Answer, checked}
use Rattle.committee.specs.Committee.{AuthorityIndex, Stake, Committee, broken, is_quorum, get_stake}
use Rattle.committee_set.specs.AuthoritySet.{AuthoritySet, united, set_of, stake_of}
use Rattle.ring_owners.specs.Rung.{ringable}

-- the owners who can be rung, ascending
unfoldable pub reached : Committee → AuthoritySet → AuthoritySet → List AuthorityIndex
reached c v r = keep (ringable c v r) (count_from 0 128)

-- the larger stake goes ahead, the lower number among equals
unfoldable pub ahead : Committee → AuthorityIndex → AuthorityIndex → Bool
ahead c a b = ltb (get_stake c b) (get_stake c a) || (eqb (get_stake c b) (get_stake c a) && ltb a b)

-- an owner put before the first that he is ahead of
unfoldable pub placed : Committee → AuthorityIndex → List AuthorityIndex → List AuthorityIndex
placed c a [] = a ∷ []
placed c a (b ∷ bs) = pick (ahead c a b) (a ∷ b ∷ bs) (b ∷ placed c a bs)

unfoldable pub ranked : Committee → List AuthorityIndex → List AuthorityIndex
ranked c [] = []
ranked c (a ∷ as') = placed c a (ranked c as')

-- the first of a list, until the stake s and theirs is quorum
unfoldable pub until_quorum : Committee → Stake → List AuthorityIndex → List AuthorityIndex
until_quorum c s [] = []
until_quorum c s (a ∷ as') = pick (is_quorum c s) [] (a ∷ until_quorum c (s + get_stake c a) as')

unfoldable pub rung : Committee → AuthoritySet → AuthoritySet → List AuthorityIndex
rung c v r = until_quorum c (stake_of c v) (ranked c (reached c v r))

-- 02: "give the fewest further owners .., and their stake"
pub record Ring : Type 0 where
  pub owners : AuthoritySet
  pub stake : Stake

-- 02: "If no reachable set suffices it answers 60; that holds exactly when all reachable owners together with the voters miss quorum"
unfoldable pub ring_checks : Committee → AuthoritySet → AuthoritySet → List Check
ring_checks c v r = (broken c ⇒ 5) ∷ (not (is_quorum c (stake_of c (united v r))) ⇒ 60) ∷ []

abbrev pub ring_of : Committee → AuthoritySet → Ring
ring_of c w = record { owners = w; stake = stake_of c w }

-- for the voters v of a pending locator and the reachable owners r
unfoldable pub ring : Committee → AuthoritySet → AuthoritySet → Answer Ring
ring c v r = checked (ring_checks c v r) (ring_of c (set_of (rung c v r)))
