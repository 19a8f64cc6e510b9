use mathlib.Core.Path.{sym, ap}
use native.Mathlib.Omega.{arith}
use Rattle.final_readings_spec.specs.Answers.{as_reading}
use Rattle.final_question.specs.Answers.{as_finality}
use Rattle.host_finality.specs.Finality.{FinalityCall, finality_number}
use Rattle.host_finality.proofs.Finals.{asked_none, asked_ragged}
use Rattle.host_locators.proofs.Locators.{before_most}
use Rattle.host_finality.proofs.finality_of.Goals as goal

pub returns-then-locator-ne-LOCATOR_BYTES : goal.returns-then-locator-ne-LOCATOR_BYTES
unfolding finality_number as_finality
returns-then-locator-ne-LOCATOR_BYTES c =
    let start = c.args in
    let e = asked_none (as_reading start.reading) start.stakes.now start.store.now start.positions.now start.locator.now
    c.if-locator-ne-LOCATOR_BYTES.true in
    let number = c.refusal_before.ensures in record {
      asked = (rw number (sym (ap (λ (x : FinalityCall). x.answer) e)), sym (ap (λ (x : FinalityCall). x.positions) e));
      bounded = omega
          (arith, number, before_most 20 start.stakes.now start.store.now (omega arith));
    }

pub returns-then-positions-ne-POSITION_BYTES : goal.returns-then-positions-ne-POSITION_BYTES
unfolding finality_number as_finality
returns-then-positions-ne-POSITION_BYTES c =
    let start = c.args in
    let e = asked_ragged (as_reading start.reading) start.stakes.now start.store.now start.positions.now start.locator.now
    c.if-locator-ne-LOCATOR_BYTES.false c.if-positions-ne-POSITION_BYTES.true in
    let number = c.refusal_before-then-positions-ne-POSITION_BYTES.ensures in record {
      asked = (rw number (sym (ap (λ (x : FinalityCall). x.answer) e)), sym (ap (λ (x : FinalityCall). x.positions) e));
      bounded = omega
          (arith, number, before_most 40 start.stakes.now start.store.now (omega arith));
    }
