use Rattle.pending_spec.proofs.Worked.{examples}
use Rattle.pending_spec.proofs.examples.Goals as goal

pub returns : goal.returns
returns c = examples
