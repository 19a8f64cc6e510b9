use Rattle.base.specs.Checks.{refused}
use Rattle.final_readings_spec.specs.Answers.{as_reading}
use Rattle.list_readings_spec.specs.Answers.{is_ordinary}
use Rattle.list_readings_spec.specs.Lists.{listing}
use Rattle.final_spec.specs.Finality.{blocks_of}
use mathlib.Core.Path.{sym, ap, ◌∙◌}
use native.Mathlib.Omega.{arith}
use Rattle.host_calls.specs.Calls.{encoded}
use Rattle.host_final_answers.specs.Answers.{as_after, after_of, stretches_number}
use Rattle.host_finals.specs.Stretches.{StretchesCall, stretches_in}
use Rattle.host_finals.proofs.Stretched.{counts_fit_lem, stretches_malformed, stretches_unsized, stretches_asked}
use borrow.Author.Rules.{rules}
use Rattle.host_finals.proofs.stretches_of.Goals as goal

pub enum_told-1 : goal.enum_told-1
enum_told-1 c = search rules

pub returns-in_default : goal.returns-in_default
unfolding encoded as_after
returns-in_default c =
    let start = c.args in
    let place = sym c.after_of.ensures ∙ ap as_after c.in_default.is in
    let e = stretches_malformed start.stakes.now start.store.now
    (listing (is_ordinary start.list) (as_reading start.reading) start.stakes.now (blocks_of start.store.now)) (after_of start.after.now)
    start.out.now place in (
      c.refused.ensures ∙ ap (λ n. encoded (refused n)) c.refusal_before-refusal.ensures
          ∙ sym (ap (λ (x : StretchesCall). encoded x.answer) e),
      sym (ap (λ (x : StretchesCall). x.stretches) e),
    )

pub returns-then-not-holds_stretches : goal.returns-then-not-holds_stretches
unfolding encoded as_after
returns-then-not-holds_stretches c =
    let start = c.args in
    let place = sym c.after_of.ensures ∙ ap as_after
    c.in-Ok.is in
    let room = sym c.holds_stretches.ensures ∙ c.if-not-holds_stretches.true in
    let e = stretches_unsized start.stakes.now start.store.now
    (listing (is_ordinary start.list) (as_reading start.reading) start.stakes.now (blocks_of start.store.now)) (after_of start.after.now)
    start.out.now _ place room in (
      c.refused-then-not-holds_stretches.ensures ∙ ap (λ n. encoded (refused n)) c.refusal_before-refusal-then-not-holds_stretches.ensures
          ∙ sym (ap (λ (x : StretchesCall). encoded x.answer) e),
      sym
          (ap (λ (x : StretchesCall). x.stretches) e),
    )

pub stretches_number-requires : goal.stretches_number-requires
stretches_number-requires c =
    let start = c.args in
    let told = c.list_stretches-answer in
    counts_fit_lem start.stakes.now start.store.now start.out.now
    (listing (is_ordinary start.list) (as_reading start.reading) start.stakes.now (blocks_of start.store.now)) _ told.result
    (omega (arith, c.well_formed))
    told.ensures.result_value

pub returns : goal.returns
unfolding as_after stretches_in
returns c =
    let start = c.args in
    let place = sym c.after_of.ensures ∙ ap as_after
    c.in-Ok.is in
    let room = sym c.holds_stretches.ensures ∙ c.if-not-holds_stretches.false in
    let e = stretches_asked start.stakes.now start.store.now
    (listing (is_ordinary start.list) (as_reading start.reading) start.stakes.now (blocks_of start.store.now)) (after_of start.after.now)
    start.out.now _ place room in
    let told = c.list_stretches-answer.ensures in (
      c.stretches_number.ensures ∙ ap encoded (ap stretches_number told.result_value ∙ sym (ap (λ (x : StretchesCall). x.answer) e)),
      told.out_after ∙ sym (ap (λ (x : StretchesCall). x.stretches) e),
    )
