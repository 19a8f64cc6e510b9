use Rattle.std.specs.Prelude.{Ok}
use Rattle.base.specs.Checks.{refused}
use mathlib.Core.Path.{sym, ap, ◌∙◌}
use Rattle.base.proofs.Le.{length_le_bytes}
use Rattle.words.proofs.Stores.{sets_complete}
use Rattle.store_time.specs.Times.{ask_time}
use Rattle.store_time.specs.Answers.{as_time_answer}
use Rattle.host_calls.specs.Calls.{encoded}
use Rattle.host_times.specs.Times.{TimeCall, found_in}
use Rattle.host_times.proofs.Asked.{time_malformed, time_unsized, time_asked}
use Rattle.host_times.proofs.time_of.Goals as goal

pub returns-then-reference-ne-REFERENCE_BYTES : goal.returns-then-reference-ne-REFERENCE_BYTES
unfolding encoded
returns-then-reference-ne-REFERENCE_BYTES c =
    let a = c.args in
    let e = time_malformed a.stakes.now a.store.now a.reference.now a.found.now c.if-reference-ne-REFERENCE_BYTES.true in (
      c.refused.ensures ∙ ap (λ n. encoded (refused n)) c.refusal_before-refusal.ensures
          ∙ sym (ap (λ (x : TimeCall). encoded x.answer) e),
      sym (ap (λ (x : TimeCall). x.found) e),
    )

pub returns-then-found-ne8 : goal.returns-then-found-ne8
unfolding encoded
returns-then-found-ne8 c =
    let a = c.args in
    let e = time_unsized a.stakes.now a.store.now a.reference.now a.found.now c.if-reference-ne-REFERENCE_BYTES.false c.if-found-ne8.true in (
      c.refused-then-found-ne8.ensures ∙ ap (λ n. encoded (refused n)) c.refusal_before-refusal-then-found-ne8.ensures
          ∙ sym (ap (λ (x : TimeCall). encoded x.answer) e),
      sym (ap (λ (x : TimeCall). x.found) e),
    )

pub returns-in-Ok-Some : goal.returns-in-Ok-Some
unfolding encoded as_time_answer found_in
returns-in-Ok-Some c =
    let a = c.args in
    let e = time_asked a.stakes.now a.store.now a.reference.now a.found.now _
    c.if-reference-ne-REFERENCE_BYTES.false
    c.if-found-ne8.false
    (ap (ask_time a.stakes.now a.store.now) (sym c.read_reference.ensures) ∙
    sym c.creation_time.ensures ∙ ap as_time_answer
    (c.in-Ok-Some.is ∙ ap Ok c.in-Ok-Some.field-0-is)) in (
      sym (ap (λ (x : TimeCall). encoded x.answer) e),
      c.write_u64.ensures ∙ sets_complete a.found.now _
          (length_le_bytes 8 c.in-Ok-Some.time ∙ sym
          c.if-found-ne8.false) ∙ sym (ap (λ (x : TimeCall). x.found) e),
    )

pub returns-in-Ok-None : goal.returns-in-Ok-None
unfolding encoded as_time_answer found_in
returns-in-Ok-None c =
    let a = c.args in
    let e = time_asked a.stakes.now a.store.now a.reference.now a.found.now _ c.if-reference-ne-REFERENCE_BYTES.false
    c.if-found-ne8.false (ap (ask_time a.stakes.now a.store.now)
    (sym c.read_reference.ensures) ∙ sym c.creation_time.ensures ∙ ap as_time_answer
    (c.in-Ok-None.is ∙ ap Ok c.in-Ok-None.field-0-is)) in
    (sym (ap (λ (x : TimeCall). encoded x.answer) e), sym (ap (λ (x : TimeCall). x.found) e))

pub returns-in-Err : goal.returns-in-Err
unfolding encoded as_time_answer found_in
returns-in-Err c =
    let a = c.args in
    let e = time_asked a.stakes.now a.store.now a.reference.now a.found.now _ c.if-reference-ne-REFERENCE_BYTES.false
    c.if-found-ne8.false (ap (ask_time a.stakes.now a.store.now)
    (sym c.read_reference.ensures) ∙ sym c.creation_time.ensures ∙ ap as_time_answer
    c.in-Err.is) in
    (c.refused-in-Err.ensures ∙ sym (ap (λ (x : TimeCall). encoded x.answer) e), sym (ap (λ (x : TimeCall). x.found) e))
