use mathlib.Core.Path.{sym, ◌∙◌}
use Rattle.types.specs.Values.{as_reference, as_locator}
use Rattle.record_spec.specs.Reference.{one_range, new_range, locator}
use Rattle.final_block_votes.proofs.Reading.{covers_one, covers_other}
use Rattle.final_block_votes.proofs.is_at.Goals as goal

pub returns-then-not-same_reference : goal.returns-then-not-same_reference
unfolding as_locator locator one_range new_range
returns-then-not-same_reference c = let a = c.args in
    sym (covers_other (one_range (locator (as_reference a.block) a.offset)) (as_locator a.locator)
    (sym c.same_reference.ensures ∙ c.if-not-same_reference.true))

pub returns : goal.returns
unfolding as_locator locator
returns c = let a = c.args in
    sym (covers_one (as_reference a.block) a.offset (as_locator a.locator)
    (sym c.same_reference.ensures ∙ c.if-not-same_reference.false))
