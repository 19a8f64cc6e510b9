use Rattle.base.specs.Checks.{refused}
use Rattle.final_readings_spec.specs.Answers.{as_reading}
use Rattle.list_readings_spec.specs.Answers.{is_ordinary}
use Rattle.list_readings_spec.specs.Lists.{listing}
use Rattle.final_spec.specs.Finality.{blocks_of}
use Rattle.host_finals.proofs.NextFinals.{next_malformed, next_unsized, next_asked}
use Rattle.host_final_answers.specs.Answers.{NextFinalCall, as_after, after_of}
use Rattle.host_calls.specs.Calls.{encoded}
use mathlib.Core.Path.{sym, ap, ◌∙◌}
use lib.ListN.{length}
use borrow.Author.Tests.{eqb-true}
use borrow.Author.Rules.{rules}
use Rattle.host_finals.proofs.next_final_of.Goals as goal

pub enum_told-1 : goal.enum_told-1
enum_told-1 c = search rules

pub returns-in_default : goal.returns-in_default
unfolding encoded as_after
returns-in_default c =
    let start = c.args in
    let place = sym c.after_of.ensures ∙ ap as_after c.in_default.is in
    let e = next_malformed start.stakes.now start.store.now
    (listing (is_ordinary start.list) (as_reading start.reading) start.stakes.now (blocks_of start.store.now)) (after_of start.after.now)
    start.found.now place in (
      c.refused.ensures ∙ ap (λ n. encoded (refused n)) c.refusal_before-refusal.ensures
          ∙ sym (ap (λ (x : NextFinalCall). encoded x.answer) e),
      sym (ap (λ (x : NextFinalCall). x.found) e),
    )

pub returns-then-not-holds_locator : goal.returns-then-not-holds_locator
unfolding encoded as_after
returns-then-not-holds_locator c =
    let start = c.args in
    let place = sym c.after_of.ensures ∙ ap as_after
    c.in-Ok.is in
    let room = sym c.holds_locator.ensures ∙ c.if-not-holds_locator.true in
    let e = next_unsized start.stakes.now start.store.now
    (listing (is_ordinary start.list) (as_reading start.reading) start.stakes.now (blocks_of start.store.now)) (after_of start.after.now)
    start.found.now _ place room in (
      c.refused-then-not-holds_locator.ensures ∙ ap (λ n. encoded (refused n)) c.refusal_before-refusal-then-not-holds_locator.ensures
          ∙ sym (ap (λ (x : NextFinalCall). encoded x.answer) e),
      sym (ap (λ (x : NextFinalCall). x.found) e),
    )

pub found_in-requires : goal.found_in-requires
found_in-requires c =
    let start = c.args in
    let room = sym c.holds_locator.ensures ∙ c.if-not-holds_locator.false in
    eqb-true (length start.found.now) 56 room

pub returns : goal.returns
unfolding as_after
returns c =
    let start = c.args in
    let place = sym c.after_of.ensures ∙ ap as_after
    c.in-Ok.is in
    let room = sym c.holds_locator.ensures ∙ c.if-not-holds_locator.false in
    let e = next_asked start.stakes.now start.store.now (listing (is_ordinary start.list) (as_reading start.reading) start.stakes.now
    (blocks_of start.store.now)) (after_of start.after.now) start.found.now _ _ place room
    (sym c.next_listed-answer.ensures) in
    let told = c.found_in.ensures in
    (told.0 ∙ sym (ap (λ (x : NextFinalCall). encoded x.answer) e), told.1 ∙ sym (ap (λ (x : NextFinalCall). x.found) e))
