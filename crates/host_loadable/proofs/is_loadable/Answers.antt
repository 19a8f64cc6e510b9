use Rattle.final_readings_spec.specs.Answers.{as_reading}
use Rattle.host_loadable.proofs.is_loadable.Goals as goal

pub returns : goal.returns
unfolding as_reading
returns c = c.is_loadable_in.ensures
