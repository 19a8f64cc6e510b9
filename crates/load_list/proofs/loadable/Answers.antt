use Rattle.final_readings_spec.specs.Answers.{as_reading}
use Rattle.load_list.proofs.loadable.Goals as goal

pub returns : goal.returns
unfolding as_reading
returns c = record { result_value = c.loadable_in.ensures.result_value; places_after = c.loadable_in.ensures.places_after }
