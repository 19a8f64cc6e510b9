use Rattle.list_readings_spec.proofs.Worked.{examples}
use Rattle.list_readings_spec.proofs.examples.Goals as goal

pub returns : goal.returns
returns c = examples
