use mathlib.Core.Path.{sym, ap, ◌∙◌}
use mathlib.Core.Option.{some}
use Rattle.host_locators.proofs.Locators.{locator_none, locator_read}
use Rattle.host_payload_bytes.proofs.share_of.Goals as goal

pub returns-then-locator-ne-LOCATOR_BYTES : goal.returns-then-locator-ne-LOCATOR_BYTES
returns-then-locator-ne-LOCATOR_BYTES c = (locator_none c.args.locator.now c.if-locator-ne-LOCATOR_BYTES.true, c.refusal_before.ensures)

pub returns : goal.returns
returns c = locator_read c.args.locator.now c.if-locator-ne-LOCATOR_BYTES.false ∙ ap some (sym c.read_locator.ensures)
