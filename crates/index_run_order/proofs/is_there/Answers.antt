use mathlib.Core.Path.{refl, sym, ap, subst, ◌∙◌}
use borrow.Author.Tests.{leb-true}
use Rattle.base.proofs.Tests.{not_both}
use Rattle.types.specs.Values.{as_reference}
use Rattle.index_spec.specs.Runs.{run}
use Rattle.index_spec.specs.Walk as walk
use Rattle.index_runs.specs.Values.{as_run, as_place}
use Rattle.index_run_order.proofs.Order.{order_less, order_equal}
use Rattle.index_run_order.proofs.is_there.Goals as goal

pub returns-in_default : goal.returns-in_default
unfolding as_place
returns-in_default c = λ t. subst (λ (p : walk.Place). walk.At p (as_run c.args.x).reference (as_run c.args.x).start)
    (sym (ap as_place c.in_default.is)) tt

pub returns-in-Less : goal.returns-in-Less
unfolding as_place as_run run
returns-in-Less c = λ t. subst (λ (p : walk.Place). walk.At p (as_run c.args.x).reference
    (as_run c.args.x).start) (sym (ap as_place c.in-Beyond.is))
    (order_less (as_reference c.in-Beyond.block)
    (as_run c.args.x).reference c.in-Beyond.offset
    (as_run c.args.x).start (sym c.compare-order.ensures ∙ c.in-Less.is))

pub returns-in-Greater : goal.returns-in-Greater
returns-in-Greater c = λ t. absurd (not_both t refl)

pub returns-in-Equal : goal.returns-in-Equal
unfolding as_place as_run run
returns-in-Equal c = λ t. subst (λ (p : walk.Place). walk.At p (as_run c.args.x).reference
    (as_run c.args.x).start)
    (sym (ap as_place c.in-Beyond.is))
    (order_equal (as_reference c.in-Beyond.block)
    (as_run c.args.x).reference
    c.in-Beyond.offset (as_run c.args.x).start
    (sym c.compare-order.ensures ∙ c.in-Equal.is) (leb-true _ _ t))
