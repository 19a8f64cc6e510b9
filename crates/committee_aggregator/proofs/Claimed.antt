-- The claims hold, those at small values by evaluation. Assumes nothing.
use mathlib.Core.Path.{refl}
use Rattle.committee_aggregator.specs.Claims.{answers, Claims}
use Rattle.committee_aggregator.proofs.Computing.{computing}
use Rattle.committee_aggregator.proofs.Crossing.{quorum_now_lem, crossed_meant, crosses_once, which_vote_lem}

pub claimed : Claims
unfolding computing answers
claimed = record {
  quorum_now = quorum_now_lem;
  crossed = crossed_meant;
  once = crosses_once;
  which_vote = which_vote_lem;
  eight_votes = refl;
  new = refl;
  crossing = refl;
  again = refl;
  five = refl;
  six_unknown = refl;
  six_stake = refl;
  unknown = refl;
}
