-- The aggregator of stake (committee.rs). Assumes nothing: these are definitions.
use Rattle.std.specs.Prelude.{◌+◌, Bool, not, ◌&&◌, List, [], ◌∷◌, eqb}
use Rattle.base.specs.Lists.{pick, all_of}
use Rattle.base.specs.Checks.{Check, ◌⇒◌, passes, Answer, checked}
use Rattle.committee.specs.Committee.{AuthorityIndex, Stake, Committee, broken, is_quorum, known, get_stake}
use Rattle.committee_set.specs.AuthoritySet.{AuthoritySet, nobody, member, inserted, members, stake_of}
use Rattle.committee_vote_answer.specs.VoteAnswer.{Told, told_of}

pub record StakeAggregator : Type 0 where
  pub votes : AuthoritySet
  pub stake : Stake

-- StakeAggregator::new
abbrev pub no_votes : StakeAggregator
no_votes = record { votes = nobody; stake = 0 }

-- 01: "stake grows only for a new voter": the aggregator with the vote of an author whose stake is s
abbrev pub with_vote : Stake → StakeAggregator → AuthorityIndex → StakeAggregator
with_vote s g a =
    pick (member g.votes a) g
    (record { votes = inserted g.votes a; stake = g.stake + s })

unfoldable pub counted : Committee → StakeAggregator → AuthorityIndex → StakeAggregator
counted c g a = with_vote (get_stake c a) g a

-- the voters hold quorum
unfoldable pub has_quorum : Committee → StakeAggregator → Bool
has_quorum c g = is_quorum c g.stake

-- 01: 6 is for "an aggregator whose voters are not all known or whose stake is not their sum"
unfoldable pub aggregator_in_order : Committee → StakeAggregator → Bool
aggregator_in_order c g = all_of (known c) (members g.votes) && eqb g.stake (stake_of c g.votes)

-- 01: "Called directly it refuses, in this order and changing nothing: 5; 6 ..; 21"
unfoldable pub add_checks : Committee → StakeAggregator → AuthorityIndex → List Check
add_checks c g a =
    (broken c ⇒ 5)
    ∷ (not (aggregator_in_order c g) ⇒ 6)
    ∷ (not (known c a) ⇒ 21)
    ∷ []

-- from the aggregator before the vote and after it
unfoldable pub told : Committee → StakeAggregator → AuthorityIndex → Told
told c g a = told_of (member g.votes a) (has_quorum c g) (has_quorum c (counted c g a))

-- what `add` answers, and the aggregator that it was lent afterwards
pub record Added : Type 0 where
  pub answer : Answer Told
  pub aggregator : StakeAggregator

-- 01: "`StakeAggregator::add` puts the voter into the aggregator it is lent"
unfoldable pub add : Committee → StakeAggregator → AuthorityIndex → Added
add c g a =
    record {
      answer = checked (add_checks c g a) (told c g a);
      aggregator = pick (passes (add_checks c g a)) (counted c g a) g;
    }
