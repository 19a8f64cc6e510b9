use Rattle.list_kind_ranges.specs.Kinds.{is_rejects}
use Rattle.list_kind_ranges.proofs.is_rejects.Goals as goal

pub returns-in-Votes : goal.returns-in-Votes
unfolding is_rejects
returns-in-Votes c = rw c.in-Votes.is

pub returns-in-Rejects : goal.returns-in-Rejects
unfolding is_rejects
returns-in-Rejects c = rw c.in-Rejects.is

pub returns-in-Shares : goal.returns-in-Shares
unfolding is_rejects
returns-in-Shares c = rw c.in-Shares.is
