use Rattle.index_runs.specs.Values.{as_maybe}
use Rattle.index_pieces.specs.Pieces.{both}
use Rattle.index_pieces.proofs.both.Goals as goal

pub returns-in_default : goal.returns-in_default
unfolding both as_maybe
returns-in_default c = rw c.in_default.is

pub returns-in_default-y : goal.returns-in_default-y
unfolding both as_maybe
returns-in_default-y c = rw (c.in-Some.is, c.in_default-y.is)

pub returns : goal.returns
unfolding both as_maybe
returns c = rw (c.in-Some.is, c.in-Some-y.is, c.overlaid.ensures)
