use Rattle.std.specs.Prelude.{Ok}
use mathlib.Core.Path.{ap, ◌∙◌}
use native.Mathlib.Omega.{arith}
use Rattle.record_spec.specs.Record.{locator_bytes}
use Rattle.types.specs.Values.{as_locator, as_maybe}
use Rattle.record_reference_bytes.proofs.Written.{length_locator_bytes}
use Rattle.words.proofs.Stores.{sets_complete}
use Rattle.list_next.specs.Answers.{as_next_final}
use Rattle.host_calls.specs.Calls.{encoded}
use Rattle.host_final_answers.specs.Answers.{found_in}
use Rattle.host_final_answers.proofs.found_in.Goals as goal

pub returns-in-Ok-Some : goal.returns-in-Ok-Some
unfolding encoded found_in as_next_final as_maybe
returns-in-Ok-Some c =
    let a = c.args in
    let l = c.in-Ok-Some.locator in
    let whole = sets_complete a.found.now (locator_bytes (as_locator l))
    (omega (arith, length_locator_bytes l, c.requires)) in (
      rw (c.in-Ok-Some.is ∙ ap Ok (rw c.in-Ok-Some.is at c.in-Ok-Some.field-0-is)),
      c.write_locator.ensures ∙ whole ∙ rw (c.in-Ok-Some.is ∙ ap Ok (rw c.in-Ok-Some.is at c.in-Ok-Some.field-0-is)),
    )

pub returns-in-Ok-None : goal.returns-in-Ok-None
unfolding encoded found_in as_next_final as_maybe
returns-in-Ok-None c = (
  rw (c.in-Ok-None.is ∙ ap Ok (rw c.in-Ok-None.is at c.in-Ok-None.field-0-is)),
  rw
      (c.in-Ok-None.is ∙ ap Ok (rw c.in-Ok-None.is at c.in-Ok-None.field-0-is)),
)

pub returns-in-Err : goal.returns-in-Err
unfolding encoded found_in as_next_final as_maybe
returns-in-Err c = (c.refused.ensures ∙ rw c.in-Err.is, rw c.in-Err.is)
