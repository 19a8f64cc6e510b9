-- The claims hold, by evaluation. Assumes nothing.
use mathlib.Core.Path.{refl}
use Rattle.committee_set.specs.Claims.{Claims}
use Rattle.committee_set.proofs.Computing.{computing}

pub claimed : Claims
unfolding computing
claimed = record { both_words = refl; once = refl; stake_once = refl }
