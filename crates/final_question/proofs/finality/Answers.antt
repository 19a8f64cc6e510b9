use Rattle.final_spec.specs.Voters.{certifies, certifiers, is_final}
use Rattle.final_spec.specs.Finality.{certifying_positions, finality}
use Rattle.final_readings_spec.specs.Readings.{voters_in, certifies_in, certifiers_in, is_final_in}
use Rattle.final_readings_spec.specs.Finality.{certifying_positions_in, finality_in}
use Rattle.final_readings_spec.specs.Answers.{as_reading}
use Rattle.final_question.proofs.finality.Goals as goal

pub returns : goal.returns
unfolding as_reading finality_in certifying_positions_in is_final_in certifiers_in certifies_in voters_in finality certifying_positions is_final certifiers
    certifies
returns c = record {
  result_value = c.finality_in.ensures.result_value;
  positions_after = c.finality_in.ensures.positions_after;
}
