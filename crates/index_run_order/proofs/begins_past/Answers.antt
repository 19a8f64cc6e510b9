use mathlib.Core.Path.{refl, sym, ◌∙◌}
use borrow.Author.Tests.{leb-true}
use Rattle.base.proofs.Tests.{not_both}
use Rattle.index_spec.specs.Runs.{run}
use Rattle.index_runs.specs.Values.{as_run}
use Rattle.index_run_order.proofs.Order.{order_less, order_equal}
use Rattle.index_run_order.proofs.begins_past.Goals as goal

pub returns-in-Less : goal.returns-in-Less
unfolding as_run run
returns-in-Less c = λ t. order_less (as_run c.args.x).reference (as_run c.args.y).reference
    (as_run c.args.x).end (as_run c.args.y).start
    (sym c.compare-order.ensures ∙ c.in-Less.is)

pub returns-in-Greater : goal.returns-in-Greater
returns-in-Greater c = λ t. absurd (not_both t refl)

pub returns-in-Equal : goal.returns-in-Equal
unfolding as_run run
returns-in-Equal c = λ t. order_equal (as_run c.args.x).reference
    (as_run c.args.y).reference (as_run c.args.x).end
    (as_run c.args.y).start
    (sym c.compare-order.ensures ∙ c.in-Equal.is) (leb-true _ _ t)
