use mathlib.Core.Path.{sym, ◌∙◌}
use mathlib.Core.Bool.{true, false}
use borrow.Author.Tests.{eq-eqb}
use Rattle.record_spec.specs.Reference.{BlockReference, reference_before}
use Rattle.base.proofs.Tests.{fails}
use Rattle.record_spec.proofs.References.{reference_same, reference_irrefl, reference_asymmetric}
use Rattle.types.specs.Values.{as_reference}
use Rattle.store_spec.specs.Entry.{follows}
use Rattle.types.proofs.Words.{compared_less, compared_equal, compared_greater}
use Rattle.store_spec.proofs.Loops.{none_entry, follows_by}
use Rattle.store_chain.proofs.comes_after.Goals as goal

pub returns-then-last-eq0 : goal.returns-then-last-eq0
unfolding follows
returns-then-last-eq0 c = rw (eq-eqb c.args.last 0 c.if-last-eq0.true)

pub reference_at-requires : goal.reference_at-requires
reference_at-requires c = none_entry c.args.store.now c.args.last c.if-last-eq0.false c.requires.0

pub returns-in-Less : goal.returns-in-Less
returns-in-Less c =
    let a = c.args in
    let x : BlockReference = as_reference c.reference_at.result in
    let y : BlockReference = as_reference c.reference_at-2.result in
    follows_by a.store.now a.last a.at x y true c.if-last-eq0.false
    c.reference_at.ensures c.reference_at-2.ensures
    (compared_less x y (sym c.compare-order.ensures ∙ c.in-Less.is)).1

pub returns-in-Equal : goal.returns-in-Equal
returns-in-Equal c =
    let a = c.args in
    let x : BlockReference = as_reference c.reference_at.result in
    let y : BlockReference = as_reference c.reference_at-2.result in
    follows_by a.store.now a.last a.at x y false c.if-last-eq0.false
    c.reference_at.ensures c.reference_at-2.ensures
    (fails (reference_before x y) (λ t. reference_irrefl y (rw
    (reference_same x y (compared_equal x y (sym c.compare-order.ensures ∙ c.in-Equal.is))) at t)))

pub returns-in-Greater : goal.returns-in-Greater
returns-in-Greater c =
    let a = c.args in
    let x : BlockReference = as_reference c.reference_at.result in
    let y : BlockReference = as_reference c.reference_at-2.result in
    follows_by a.store.now a.last a.at x y false c.if-last-eq0.false
    c.reference_at.ensures c.reference_at-2.ensures
    (reference_asymmetric y x (compared_greater x y (sym c.compare-order.ensures ∙ c.in-Greater.is)).1)
