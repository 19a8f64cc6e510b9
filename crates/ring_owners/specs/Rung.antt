-- Whom to ring, as a relation over sets of owners. Assumes nothing: these are definitions.
use Rattle.std.specs.Prelude.{◌^◌, ◌≤◌, ◌<◌, ◌≡◌, Bool, true, false, not, ◌&&◌}
use Rattle.base.specs.Lists.{before}
use Rattle.committee.specs.Committee.{AuthorityIndex, Committee, is_quorum, known}
use Rattle.committee_set.specs.AuthoritySet.{AuthoritySet, member, united, members, number_of_voters, stake_of}

-- 02: "a set of owners who can be reached (unknown numbers are ignored)", and "further owners": of the committee c, reachable in r, not among the voters v
unfoldable pub ringable : Committee → AuthoritySet → AuthoritySet → AuthorityIndex → Bool
ringable c v r a = known c a && (member r a && not (member v a))

-- 02: "further owners whose votes, with those counted, hold quorum": a set w of them, in two words of 64 bits
pub record Suffices (c : Committee) (v r w : AuthoritySet) : Type 0 where
  pub low : w.low < 2 ^ 64
  pub high : w.high < 2 ^ 64
  pub further : (a : AuthorityIndex) → member w a ≡ true → ringable c v r a ≡ true
  pub quorum : is_quorum c (stake_of c (united v w)) ≡ true

-- 02: "the fewest further owners"
pub record Fewest (c : Committee) (v r w : AuthoritySet) : Type 0 where
  pub suffices : Suffices c v r w
  pub fewest : (u : AuthoritySet) → Suffices c v r u → number_of_voters w ≤ number_of_voters u

-- 02: "among sets of the same size the one of larger stake, then the one whose members in ascending order come first"
pub record Rung (c : Committee) (v r w : AuthoritySet) : Type 0 where
  pub few : Fewest c v r w
  pub larger : (u : AuthoritySet) → Suffices c v r u → number_of_voters u ≡ number_of_voters w → stake_of c u ≤ stake_of c w
  pub first : (u : AuthoritySet) → Suffices c v r u → number_of_voters u ≡ number_of_voters w → stake_of c u ≡ stake_of c w
      → before (members u) (members w) ≡ false
