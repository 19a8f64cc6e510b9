use Rattle.final_readings_spec.specs.Answers.{as_reading}
use Rattle.host_loadable.proofs.loadable_withdrawing.Goals as goal

pub returns : goal.returns
unfolding as_reading
returns c = record { value = c.loadable_in.ensures.value; places_after = c.loadable_in.ensures.places_after }
