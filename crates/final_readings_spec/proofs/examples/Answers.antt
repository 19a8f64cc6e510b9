use Rattle.final_readings_spec.proofs.Worked.{examples}
use Rattle.final_readings_spec.proofs.examples.Goals as goal

pub returns : goal.returns
returns c = examples
