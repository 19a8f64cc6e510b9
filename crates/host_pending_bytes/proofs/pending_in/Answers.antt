use Rattle.host_locators.proofs.Locators.{locator_none, locator_read}
use Rattle.host_pending_bytes.specs.Pending.{pending_in}
use Rattle.base.specs.Checks.{refused}
use Rattle.pending_question.specs.Answers.{as_pending}
use mathlib.Core.Path.{ap}
use Rattle.host_pending_bytes.proofs.pending_in.Goals as goal

pub returns-then-locator-ne-LOCATOR_BYTES : goal.returns-then-locator-ne-LOCATOR_BYTES
unfolding as_pending pending_in
returns-then-locator-ne-LOCATOR_BYTES c = rw (locator_none c.args.locator.now c.if-locator-ne-LOCATOR_BYTES.true)
    (ap refused c.no_locator.ensures)

pub returns : goal.returns
unfolding pending_in
returns c = rw (
  locator_read c.args.locator.now c.if-locator-ne-LOCATOR_BYTES.false,
  ← c.read_locator.ensures,
) c.pending.ensures
