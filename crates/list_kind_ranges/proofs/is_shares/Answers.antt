use Rattle.list_kind_ranges.specs.Kinds.{is_shares}
use Rattle.list_kind_ranges.proofs.is_shares.Goals as goal

pub returns-in-Votes : goal.returns-in-Votes
unfolding is_shares
returns-in-Votes c = rw c.in-Votes.is

pub returns-in-Rejects : goal.returns-in-Rejects
unfolding is_shares
returns-in-Rejects c = rw c.in-Rejects.is

pub returns-in-Shares : goal.returns-in-Shares
unfolding is_shares
returns-in-Shares c = rw c.in-Shares.is
