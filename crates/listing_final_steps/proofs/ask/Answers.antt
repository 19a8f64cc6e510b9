use mathlib.Core.Path.{◌≡◌, ap, ◌∙◌}
use native.Mathlib.Omega.{arith}
use Rattle.final_spec.specs.Finality.{blocks_of}
use Rattle.list_stretches_spec.specs.Bulk.{Given}
use Rattle.final_readings_spec.specs.Readings.{old}
use Rattle.final_readings_spec.specs.Answers.{as_reading}
use Rattle.list_readings_spec.specs.Answers.{is_ordinary}
use Rattle.list_readings_spec.specs.Lists.{listing, listed_stretches}
use Rattle.types.specs.Values.{as_maybe}
use Rattle.listing_final_steps.specs.Steps.{given_in, given_by}
use Rattle.listing_final_steps.proofs.Steps.{few_given}
use Rattle.listing_final_steps.proofs.ask.Goals as goal

pub returns : goal.returns
unfolding given_in as_reading
returns c =
    let start = c.args in
    let ls = c.list_stretches-answer.ensures in
    let given : given_in c.told.result ≡ given_by (listed_stretches (is_ordinary start.list) old start.stakes.now start.store.now
    start.stretches.now (as_maybe start.after)).answer =
    c.told.ensures ∙ ap given_by ls.result_value in
    let few = few_given start.stakes.now start.store.now (listing (is_ordinary start.list) old start.stakes.now (blocks_of start.store.now))
    start.stretches.now (as_maybe start.after) in
    record { result_value = given; stretches_after = ls.out_after; count_in_bounds = omega (arith, ap (λ (g : Given). g.stretches) given, few) }
