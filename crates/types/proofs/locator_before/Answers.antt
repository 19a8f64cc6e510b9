use mathlib.Core.Path.{sym, ◌∙◌}
use Rattle.types.specs.Values.{as_locator, locator_order}
use Rattle.record_spec.specs.Reference.{same_locator, locator_before}
use Rattle.record_spec.proofs.References.{locator_irrefl, locator_same}
use Rattle.base.proofs.Tests.{fails}
use Rattle.types.proofs.Words.{order_less, order_equal, order_greater}
use Rattle.types.proofs.locator_before.Goals as goal

pub returns-in-Less : goal.returns-in-Less
unfolding locator_order
returns-in-Less c = let a = c.args in
    sym (order_less (same_locator (as_locator a.a) (as_locator a.b)) (locator_before (as_locator a.a) (as_locator a.b))
    (sym c.compare_locators-order.ensures ∙ c.in-Less.is)).1

pub returns-in-Equal : goal.returns-in-Equal
unfolding locator_order
returns-in-Equal c = let a = c.args in
    let l = as_locator a.a in
    let m = as_locator a.b in
    let e = locator_same l m (order_equal (same_locator l m) (locator_before l m)
    (sym c.compare_locators-order.ensures ∙ c.in-Equal.is)) in
    sym (fails (locator_before l m) (λ h. locator_irrefl m (rw e at h)))

pub returns-in-Greater : goal.returns-in-Greater
unfolding locator_order
returns-in-Greater c = let a = c.args in
    sym (order_greater (same_locator (as_locator a.a) (as_locator a.b)) (locator_before (as_locator a.a) (as_locator a.b))
    (sym c.compare_locators-order.ensures ∙ c.in-Greater.is)).1
