use Rattle.final_readings_spec.specs.Answers.{as_reading}
use Rattle.host.proofs.questions.lomkhvide_finality_withdrawing.Goals as goal

pub returns : goal.returns
unfolding as_reading
returns c = record { value = c.finality_call.ensures.value; positions_after = c.finality_call.ensures.positions_after }
