use mathlib.Core.Path.{sym, subst}
use mathlib.Core.Bool.{Bool}
use native.Mathlib.Omega.{arith}
use Rattle.base.proofs.Lists.{zeros_at}
use Rattle.types.specs.Values.{as_locator}
use Rattle.final_readings_spec.specs.Answers.{as_reading}
use Rattle.final_block_votes.proofs.Sorting.{some_committee}
use Rattle.load_chain.specs.Chain.{Never, Collected}
use Rattle.load_question.proofs.Deciding.{decided}
use Rattle.load_question.proofs.by_chain.Goals as goal

pub mark_chain-requires : goal.mark_chain-requires
mark_chain-requires c = (
  some_committee c.requires.0.0,
  (omega (arith, c.requires.1), λ k. zeros_at 1024 k),
)

pub returns-then-not-mark_chain : goal.returns-then-not-mark_chain
unfolding Collected Never
returns-then-not-mark_chain c =
    let a = c.args in
    let n = subst (λ (t : Bool). Collected a.store.now a.order.now (as_locator a.locator) c.mark_chain.new.marks t)
    (c.if-not-mark_chain.true) c.mark_chain.ensures in
    sym (n (as_reading a.reading) a.stakes.now c.requires.0.0.in_order)

pub returns : goal.returns
unfolding Collected
returns c =
    let a = c.args in
    let chain = subst (λ (t : Bool). Collected a.store.now a.order.now (as_locator a.locator)
    c.mark_chain.new.marks t)
    (c.if-not-mark_chain.false)
    c.mark_chain.ensures in
    decided (as_reading a.reading) a.stakes.now a.store.now
    c.requires.0.0.in_order a.order.now
    (as_locator a.locator) c.mark_chain.new.marks _ chain
    c.clear_finals.ensures c.none_left.result c.none_left.ensures
