-- What the answers of `add` mean: which vote completed a quorum, and small values over the course committee. Assumes nothing: these are definitions.
use Rattle.std.specs.Prelude.{ℕ, ◌+◌, ◌≡◌, ◌↔◌, Bool, true, false, not, ◌&&◌, List, [], ◌∷◌, ◌++◌}
use Rattle.base.specs.Lists.{pick}
use Rattle.base.specs.Checks.{Answer, refused, answered}
use Rattle.committee.specs.Committee.{AuthorityIndex, Committee, course_committee}
use Rattle.committee_vote_answer.specs.VoteAnswer.{Told, repeated_below, repeated_with, new_below, new_with}
use Rattle.committee_aggregator.specs.StakeAggregator.{StakeAggregator, no_votes, has_quorum, add}

-- 01: "whether quorum holds now"
unfoldable pub holds_now : Told → Bool
holds_now repeated_below = false
holds_now repeated_with = true
holds_now new_below = false
holds_now (new_with crossed) = true

-- the answer says that this vote crossed quorum
unfoldable pub says_crossed : Answer Told → Bool
says_crossed (refused n) = false
says_crossed (answered repeated_below) = false
says_crossed (answered repeated_with) = false
says_crossed (answered new_below) = false
says_crossed (answered (new_with crossed)) = crossed

-- the answers to a list of votes, one after the other, and the aggregator after them
unfoldable pub answers : Committee → StakeAggregator → List AuthorityIndex → List (Answer Told)
answers c g [] = []
answers c g (a ∷ later) = (add c g a).answer ∷ answers c (add c g a).aggregator later

unfoldable pub added_all : Committee → StakeAggregator → List AuthorityIndex → StakeAggregator
added_all c g [] = g
added_all c g (a ∷ later) = added_all c (add c g a).aggregator later

-- how many of the answers say so
unfoldable pub crossings : List (Answer Told) → ℕ
crossings [] = 0
crossings (r ∷ later) = pick (says_crossed r) 1 0 + crossings later

-- 02: "which vote completed a quorum": one of the votes, and those before it
pub record CrossesAt (c : Committee) (voters : List AuthorityIndex) : Type 0 where
  pub earlier : List AuthorityIndex
  pub voter : AuthorityIndex
  pub later : List AuthorityIndex
  pub splits : voters ≡ earlier ++ voter ∷ later
  pub crosses : says_crossed (add c (added_all c no_votes earlier) voter).answer ≡ true

abbrev has : ℕ → ℕ → ℕ → StakeAggregator
has low high s = record { votes = record { low = low; high = high }; stake = s }

pub record Claims : Type 0 where
  -- whichever of the four it is, it says whether quorum holds now
  pub quorum_now : (c : Committee) (g : StakeAggregator) (a : AuthorityIndex) (t : Told) → (add c g a).answer ≡ answered t → holds_now t ≡ has_quorum c
      (add c g a).aggregator
  -- crossed: quorum holds now and did not before this vote
  pub crossed : (c : Committee) (g : StakeAggregator) (a : AuthorityIndex) → says_crossed (add c g a).answer ≡ not (has_quorum c g) && has_quorum c
      (add c g a).aggregator
  -- on the way from no votes one vote crosses, whatever the order, and none where quorum is not reached; refused ones in between change nothing
  pub once : (c : Committee) (voters : List AuthorityIndex) → crossings (answers c no_votes voters) ≡ pick (has_quorum c (added_all c no_votes voters)) 1 0
  pub which_vote : (c : Committee) (voters : List AuthorityIndex) → (has_quorum c (added_all c no_votes voters) ≡ true) ↔ CrossesAt c voters
  -- 5, 3, again, 3, unknown, 1 (12: quorum), 1, again
  pub eight_votes : answers course_committee no_votes (0 ∷ 1 ∷ 1 ∷ 2 ∷ 7 ∷ 5 ∷ 6 ∷ 6 ∷ [])
      ≡ answered new_below ∷ answered new_below ∷ answered repeated_below ∷ answered new_below ∷ refused 21 ∷ answered (new_with true)
      ∷ answered (new_with false) ∷
      answered repeated_with ∷ []
  pub new : add course_committee (has 3 0 8) 2 ≡ record { answer = answered new_below; aggregator = has 7 0 11 }
  pub crossing : add course_committee (has 7 0 11) 5 ≡ record { answer = answered (new_with true); aggregator = has 39 0 12 }
  pub again : add course_committee (has 3 0 8) 1 ≡ record { answer = answered repeated_below; aggregator = has 3 0 8 }
  pub five : add [] (has 9 0 0) 9 ≡ record { answer = refused 5; aggregator = has 9 0 0 }
  -- 6: an unknown voter; a wrong stake
  pub six_unknown : add course_committee (has 128 0 0) 9 ≡ record { answer = refused 6; aggregator = has 128 0 0 }
  pub six_stake : add course_committee (has 3 0 7) 9 ≡ record { answer = refused 6; aggregator = has 3 0 7 }
  pub unknown : add course_committee (has 3 0 8) 7 ≡ record { answer = refused 21; aggregator = has 3 0 8 }
