-- Every definition of the crate and of those below it at once, for evaluated examples: `unfolding computing`. Assumes nothing.
use Rattle.committee_set.specs.AuthoritySet.{without}
use Rattle.final_spec.proofs.Computing.{computing as computing-finality}
use Rattle.final_readings_spec.specs.Rejecting.{rejected_in, rejections, rejects, own_reject}
use Rattle.final_readings_spec.specs.Readings.{voters_in, certifies_in, certifiers_in, is_final_in}
use Rattle.final_readings_spec.specs.Finality.{certifying_positions_in, finality_in}
use Rattle.final_readings_spec.specs.NextFinal.{after_rejections, candidates_in, least_final_in, next_final_in, final_list_in, reject_edges}

unfoldable pub computing : Unit {0}
unfolding computing-finality rejected_in rejections rejects own_reject without voters_in certifies_in certifiers_in is_final_in certifying_positions_in
    finality_in
    after_rejections candidates_in least_final_in next_final_in final_list_in reject_edges
computing = tt
