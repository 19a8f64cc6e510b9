-- Every definition of the crate and of those below it at once, for evaluated examples: `unfolding computing`. Assumes nothing.
use Rattle.committee.proofs.Computing.{computing as computing-committee}
use Rattle.committee_set.specs.AuthoritySet.{bit, member, inserted, united, set_of, members, number_of_voters, stake_from, stake_of}

unfoldable pub computing : Unit {0}
unfolding computing-committee bit member inserted united set_of members number_of_voters stake_from stake_of
computing = tt
