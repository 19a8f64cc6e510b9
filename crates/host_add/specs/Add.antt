-- Adding a vote to an aggregator that a host holds. Assumes nothing: these are definitions.
use Rattle.std.specs.Prelude.{ℕ, true, [], ◌∷◌, eqb, length}
use Rattle.base.specs.Lists.{pick}
use Rattle.base.specs.Le.{Bytes, le_at}
use Rattle.base.specs.Checks.{◌⇒◌, refusal, Answer, refused, answered}
use Rattle.committee.specs.Committee.{AuthorityIndex, Committee, broken}
use Rattle.committee_vote_answer.specs.VoteAnswer.{Told, repeated_below, repeated_with, new_below, new_with}
use Rattle.committee_aggregator.specs.StakeAggregator.{StakeAggregator, add}
use Rattle.words.specs.Words.{bytes_of}
use Rattle.host_calls.specs.Calls.{committee_of}

-- an aggregator crosses as three words: the vote set's two, and the stake
unfoldable pub aggregator_of : Bytes → StakeAggregator
aggregator_of b = record { votes = record { low = le_at 8 b 0; high = le_at 8 b 8 }; stake = le_at 8 b 16 }

unfoldable pub aggregator_bytes : StakeAggregator → Bytes
aggregator_bytes g = bytes_of (g.votes.low ∷ g.votes.high ∷ g.stake ∷ [])

-- 02: "repeated below quorum, repeated with quorum, new below quorum, new with quorum, the last also saying whether this vote crossed it": 0, 1, 2, and 3 or 4
unfoldable pub told_number : Told → ℕ
told_number repeated_below = 0
told_number repeated_with = 1
told_number new_below = 2
told_number (new_with crossed) = pick crossed 4 3

unfoldable pub numbered : Answer Told → Answer ℕ
numbered (answered t) = answered (told_number t)
numbered (refused n) = refused n

-- what adding answers, and the aggregator's bytes afterwards
pub record AddCall : Type 0 where
  pub answer : Answer ℕ
  pub aggregator : Bytes

-- 01: "it refuses, in this order and changing nothing: 5; 6 ..; 21"; bytes that are not three words are no aggregator, 6
unfoldable pub add_of : Committee → Bytes → AuthorityIndex → AddCall
add_of c b a =
    pick (eqb (length b) 24)
    (record {
      answer = numbered (add c (aggregator_of b) a).answer;
      aggregator = aggregator_bytes (add c (aggregator_of b) a).aggregator;
    })
    (record { answer = refused (refusal ((broken c ⇒ 5) ∷ (true ⇒ 6) ∷ [])); aggregator = b })

unfoldable pub add_call : Bytes → Bytes → AuthorityIndex → AddCall
add_call stakes b a = add_of (committee_of stakes) b a
