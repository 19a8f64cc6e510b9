use Rattle.final_readings_spec.specs.Answers.{as_reading}
use Rattle.final_question.proofs.finality_withdrawing.Goals as goal

pub returns : goal.returns
unfolding as_reading
returns c = record {
  result_value = c.finality_in.ensures.result_value;
  positions_after = c.finality_in.ensures.positions_after;
}
