use mathlib.Core.Path.{sym, ap₂, ◌∙◌}
use borrow.Author.Tests.{eq-eqb, ne_eqb}
use Rattle.base.proofs.Tests.{fails}
use Rattle.types.specs.Values.{reference_order}
use Rattle.types.proofs.Words.{compared_equal, compared_less, compared_greater}
use Rattle.record_spec.proofs.References.{reference_same, reference_irrefl, reference_asymmetric}
use borrow.Author.Rules.{rules}
use Rattle.slip_read_body.proofs.follows.Goals as goal

pub returns-then-i-eq0 : goal.returns-then-i-eq0
returns-then-i-eq0 c = rw (eq-eqb _ _ c.if-i-eq0.true)

pub enum_told-1 : goal.enum_told-1
enum_told-1 c = search rules

pub returns-in-Less : goal.returns-in-Less
returns-in-Less c =
    let e = c.compare-order.ensures ∙ ap₂ reference_order c.read_reference.ensures
    c.read_reference-2.ensures in
    rw (ne_eqb _ _ c.if-i-eq0.false, (compared_less _ _ (sym e ∙ c.in-Less.is)).1)

pub returns-in-Equal : goal.returns-in-Equal
returns-in-Equal c =
    let e = c.compare-order.ensures ∙ ap₂ reference_order c.read_reference.ensures
    c.read_reference-2.ensures in
    let same = reference_same _ _ (compared_equal _ _ (sym e ∙ c.in-Equal.is)) in
    rw (ne_eqb _ _ c.if-i-eq0.false, same) (sym (fails _ (λ t. reference_irrefl _ t)))

pub returns-in-Greater : goal.returns-in-Greater
returns-in-Greater c =
    let e = c.compare-order.ensures ∙ ap₂ reference_order c.read_reference.ensures
    c.read_reference-2.ensures in
    rw (ne_eqb _ _ c.if-i-eq0.false, reference_asymmetric _ _ (compared_greater _ _ (sym e ∙ c.in-Greater.is)).1)
