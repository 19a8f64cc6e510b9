use Rattle.index_spec.specs.Runs.{run}
use Rattle.types.specs.Values.{as_reference}
use Rattle.index_runs.specs.Values.{as_run}
use Rattle.index_runs.proofs.Words.{run_at}
use Rattle.index_runs.proofs.read_run.Goals as goal

pub returns : goal.returns
unfolding as_run run as_reference
returns c = rw (
  run_at c.args.index.now
      c.args.at,
  c.read_digest-digest.ensures,
)
