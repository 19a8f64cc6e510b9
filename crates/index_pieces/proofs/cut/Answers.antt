use Rattle.index_spec.specs.Runs.{run}
use Rattle.index_runs.specs.Values.{as_run}
use Rattle.index_pieces.specs.Pieces.{cut}
use Rattle.index_pieces.proofs.cut.Goals as goal

pub returns : goal.returns
unfolding cut as_run run
returns c = rw c.nearer.ensures
