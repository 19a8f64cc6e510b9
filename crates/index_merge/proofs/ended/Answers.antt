use mathlib.Core.Path.{refl}
use Rattle.index_spec.specs.Runs.{run}
use Rattle.index_runs.specs.Values.{as_run}
use Rattle.index_pieces.specs.Sources.{ended}
use Rattle.index_merge.proofs.ended.Goals as goal

pub returns : goal.returns
unfolding as_run run ended
returns c = refl
