use mathlib.Core.Path.{sym, ◌∙◌}
use native.Mathlib.Omega.{arith}
use Rattle.record_spec.specs.Reference.{locator}
use Rattle.types.specs.Values.{as_locator}
use Rattle.index_spec.specs.Runs.{run}
use Rattle.index_runs.specs.Values.{as_run}
use Rattle.sorted_step.proofs.Standing.{side_less, side_greater, side_before, side_inside, side_past}
use Rattle.sorted_step.proofs.side_of.Goals as goal

pub returns-then-locator-run : goal.returns-then-locator-run
unfolding as_run run as_locator locator
returns-then-locator-run c =
    let a = c.args in
    side_before (as_run a.run) (as_locator a.locator) (sym c.compare-order.ensures ∙ c.in-Equal.is) c.if-locator-run.true

pub returns-then-locator-run-2 : goal.returns-then-locator-run-2
unfolding as_run run as_locator locator
returns-then-locator-run-2 c =
    let a = c.args in
    side_inside (as_run a.run) (as_locator a.locator) (sym c.compare-order.ensures ∙ c.in-Equal.is) (omega (arith, c.if-locator-run.false))
    c.if-locator-run-2.true

pub returns-in-Less : goal.returns-in-Less
unfolding as_run run as_locator locator
returns-in-Less c =
    let a = c.args in
    side_less (as_run a.run) (as_locator a.locator) (sym c.compare-order.ensures ∙ c.in-Less.is)

pub returns-in-Greater : goal.returns-in-Greater
unfolding as_run run as_locator locator
returns-in-Greater c =
    let a = c.args in
    side_greater (as_run a.run) (as_locator a.locator) (sym c.compare-order.ensures ∙ c.in-Greater.is)

pub returns-else-locator-run-2 : goal.returns-else-locator-run-2
unfolding as_run run as_locator locator
returns-else-locator-run-2 c =
    let a = c.args in
    side_past (as_run a.run) (as_locator a.locator) (sym c.compare-order.ensures ∙ c.in-Equal.is) (omega (arith, c.if-locator-run-2.false))
