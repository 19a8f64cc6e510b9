use mathlib.Core.Path.{refl, ap}
use Rattle.base.specs.Checks.{refused}
use Rattle.slip_write_bytes.specs.Answers.{as_slip_answer}
use Rattle.host_locators.proofs.Locators.{locator_none, locator_read}
use Rattle.host_slip_writer.specs.WriteSlip.{asked_slip}
use Rattle.host_slip_writer.proofs.write_slip_of.Goals as goal

named_result_value_out_after : {P0 P1 : Type 0} → P0 × P1 → record { result_value : P0; out_after : P1 }
named_result_value_out_after p = record { result_value = p.0; out_after = p.1 }

pub returns-then-locator-ne-LOCATOR_BYTES : goal.returns-then-locator-ne-LOCATOR_BYTES
unfolding as_slip_answer asked_slip
returns-then-locator-ne-LOCATOR_BYTES c = named_result_value_out_after (rw (locator_none c.args.locator.now c.if-locator-ne-LOCATOR_BYTES.true)
    (ap refused c.refusal_before.ensures, refl))

pub returns : goal.returns
unfolding asked_slip
returns c = named_result_value_out_after (rw (
  locator_read c.args.locator.now
      c.if-locator-ne-LOCATOR_BYTES.false,
  ← c.read_locator.ensures,
)
    (c.write_slip_in.ensures.result_value, c.write_slip_in.ensures.out_after))
