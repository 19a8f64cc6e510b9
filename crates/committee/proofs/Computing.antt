-- Every definition of the crate and of those below it at once, for evaluated examples: `unfolding computing`. Assumes nothing.
use Rattle.base.proofs.Computing.{computing as computing-base}
use Rattle.committee.specs.Committee.{total_stake, committee_checks, new_committee, broken, is_quorum, is_valid, known, get_stake, course_committee}

unfoldable pub computing : Unit {0}
unfolding computing-base total_stake committee_checks new_committee broken is_quorum is_valid known get_stake course_committee
computing = tt
