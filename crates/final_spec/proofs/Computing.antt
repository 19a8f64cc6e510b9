-- Every definition of the crate and of those below it at once, for evaluated examples: `unfolding computing`. Assumes nothing.
use Rattle.store_spec.proofs.Computing.{computing as computing-store-layout}
use Rattle.final_spec.specs.Voters.{votes_for, own_vote, unions, spoken, certifies, certifiers, is_final}
use Rattle.final_spec.specs.Finality.{blocks_of, certifying_positions, finality_checks, finality}
use Rattle.final_spec.specs.NextFinal.{is_after, just_after, candidates, lesser_locator, least_locator, least_final, next_final_checks, next_final}
use Rattle.final_spec.specs.NextFinal.{placed_locator}
use Rattle.final_spec.specs.NextFinal.{ascending_locators, final_list}
use Rattle.final_spec.specs.Claims.{VotersMeant, VotersOfAncestry, FinalMeant, LeastFinalMeant, FinalListMeant}

unfoldable pub computing : Unit {0}
unfolding computing-store-layout votes_for own_vote unions spoken certifies certifiers is_final blocks_of certifying_positions finality_checks finality is_after
    just_after candidates lesser_locator least_locator least_final next_final_checks next_final placed_locator ascending_locators final_list VotersMeant
    VotersOfAncestry FinalMeant LeastFinalMeant FinalListMeant
computing = tt
