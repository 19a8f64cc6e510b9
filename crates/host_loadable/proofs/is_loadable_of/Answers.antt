use mathlib.Core.Path.{ap}
use Rattle.base.specs.Checks.{refused}
use Rattle.load_question.specs.Answers.{as_loadable}
use Rattle.host_locators.specs.Locators.{asked}
use Rattle.host_locators.proofs.Locators.{locator_none, locator_read}
use Rattle.host_loadable.proofs.is_loadable_of.Goals as goal

pub returns-then-locator-ne-LOCATOR_BYTES : goal.returns-then-locator-ne-LOCATOR_BYTES
unfolding as_loadable asked
returns-then-locator-ne-LOCATOR_BYTES c = rw (locator_none c.args.locator.now c.if-locator-ne-LOCATOR_BYTES.true) (ap refused c.refusal_before.ensures)

pub returns : goal.returns
unfolding asked
returns c = rw (
  locator_read c.args.locator.now c.if-locator-ne-LOCATOR_BYTES.false,
  ← c.read_locator-share.ensures,
) c.is_loadable_in.ensures
