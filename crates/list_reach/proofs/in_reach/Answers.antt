use mathlib.Core.Path.{sym, ap, ◌∙◌}
use mathlib.Core.Bool.{not}
use mathlib.Core.Option.{none}
use native.Mathlib.Omega.{arith}
use Rattle.base.specs.Lists.{is_none}
use Rattle.record_spec.specs.Reference.{locator, new_range}
use Rattle.types.specs.Values.{as_locator, as_range, as_maybe}
use Rattle.final_spec.specs.NextFinal.{is_after}
use Rattle.list_order.specs.Row.{is_after_best}
use Rattle.list_reach.proofs.Reach.{reach_empty, reach_ended, reach_left}
use borrow.Author.Rules.{rules}
use Rattle.list_reach.proofs.in_reach.Goals as goal

pub returns-then-end-start : goal.returns-then-end-start
unfolding as_range new_range
returns-then-end-start c = let a = c.args in
    sym (reach_empty (as_maybe a.last) (as_maybe a.bound) (as_range a.range) (omega (arith, c.if-end-start.true)))

pub returns-then-not-is_after : goal.returns-then-not-is_after
unfolding as_range new_range as_locator locator
returns-then-not-is_after c = let a = c.args in
    sym (reach_ended (as_maybe a.last) (as_maybe a.bound) (as_range a.range) (sym c.is_after.ensures ∙ c.if-not-is_after.true))

pub returns-in_default : goal.returns-in_default
unfolding as_range new_range as_locator locator as_maybe is_after_best is_none
returns-in_default c = let a = c.args in
    rw c.in_default.is (sym (reach_left (as_maybe a.last) none (as_range a.range) (omega (arith, c.if-end-start.false))
    (sym c.is_after.ensures ∙ c.if-not-is_after.false)))

pub returns : goal.returns
unfolding as_range new_range as_locator locator as_maybe is_after_best is_none is_after
returns c = let a = c.args in
    rw c.in-Some.is (ap not c.locator_before.ensures ∙ sym
    (reach_left (as_maybe a.last) _ (as_range a.range) (omega (arith, c.if-end-start.false))
    (sym c.is_after.ensures ∙ c.if-not-is_after.false)))
