use mathlib.Core.Path.{sym, ◌∙◌}
use Rattle.types.specs.Values.{as_reference, reference_order}
use Rattle.record_spec.specs.Reference.{same_reference, reference_before}
use Rattle.types.proofs.Words.{order_less, order_equal, order_greater}
use Rattle.final_block_votes.proofs.same_reference.Goals as goal

pub returns-in-Less : goal.returns-in-Less
unfolding reference_order
returns-in-Less c = let a = c.args in
    sym (order_less (same_reference (as_reference a.a) (as_reference a.b)) (reference_before (as_reference a.a) (as_reference a.b))
    (sym c.compare-order.ensures ∙ c.in-Less.is)).0

pub returns-in-Equal : goal.returns-in-Equal
unfolding reference_order
returns-in-Equal c = let a = c.args in
    sym (order_equal (same_reference (as_reference a.a) (as_reference a.b)) (reference_before (as_reference a.a) (as_reference a.b))
    (sym c.compare-order.ensures ∙ c.in-Equal.is))

pub returns-in-Greater : goal.returns-in-Greater
unfolding reference_order
returns-in-Greater c = let a = c.args in
    sym (order_greater (same_reference (as_reference a.a) (as_reference a.b)) (reference_before (as_reference a.a) (as_reference a.b))
    (sym c.compare-order.ensures ∙ c.in-Greater.is)).0
