use Rattle.final_readings_spec.specs.Answers.{is_rejecting}
use borrow.Author.Rules.{rules}
use Rattle.final_block_rejects.proofs.own_at.Goals as goal

pub returns-in-Votes : goal.returns-in-Votes
unfolding is_rejecting
returns-in-Votes c = rw c.in-Votes.is c.own_vote_at.ensures

pub returns-in-Rejects : goal.returns-in-Rejects
unfolding is_rejecting
returns-in-Rejects c = rw c.in-Rejects.is c.own_reject_at.ensures
