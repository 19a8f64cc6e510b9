-- Every definition of the crate and of those below it at once, for evaluated examples: `unfolding computing`. Assumes nothing.
use Rattle.feed_spec.proofs.Computing.{computing as computing-feeds}
use Rattle.final_spec.proofs.Computing.{computing as computing-finality}
use Rattle.mission_theorems.specs.Feeds.{fresh, outcome, left, run, events_in, accepted_in, accepted, stored_blocks, stored_records}
use Rattle.mission_theorems.specs.Shares.{is_vote_for, votes_from, counted_votes, counted_voters, votes_under, announces, announced_by, announcements}
use Rattle.mission_theorems.specs.ThirdStatement.{engine_of, accepted_of}

unfoldable pub computing : Unit {0}
unfolding computing-feeds computing-finality fresh outcome left run events_in accepted_in accepted stored_blocks stored_records is_vote_for votes_from
    counted_votes
    counted_voters votes_under announces announced_by announcements engine_of accepted_of
computing = tt
