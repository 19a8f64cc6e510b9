use mathlib.Core.Path.{sym, ◌∙◌}
use Rattle.record_spec.specs.Reference.{locator, same_locator}
use Rattle.types.specs.Values.{as_locator}
use Rattle.final_block_rejects.proofs.same_locator.Goals as goal

pub returns-then-not-same_reference : goal.returns-then-not-same_reference
unfolding same_locator as_locator locator
returns-then-not-same_reference c = rw (sym c.same_reference.ensures ∙ c.if-not-same_reference.true)

pub returns : goal.returns
unfolding same_locator as_locator locator
returns c = rw (sym c.same_reference.ensures ∙ c.if-not-same_reference.false)
