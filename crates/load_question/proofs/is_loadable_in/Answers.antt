use mathlib.Core.Path.{◌≡◌, sym, ap, ◌∙◌}
use mathlib.Core.Bool.{true}
use native.Mathlib.Omega.{arith}
use lib.ListN.{length}
use Rattle.committee.specs.Answers.{as_new_committee}
use Rattle.committee.proofs.Answers.{taken_sound, broken_sound}
use Rattle.types.specs.Values.{as_locator}
use Rattle.store_spec.specs.Store.{store_in_order}
use Rattle.store_spec.proofs.Check.{order_laid}
use Rattle.final_block_votes.proofs.Along.{sorted_count}
use Rattle.final_readings_spec.specs.Answers.{as_reading}
use Rattle.load_spec.proofs.Asking.{question_broken, question_disordered, question_asked}
use Rattle.load_question.specs.Answers.{as_loadable}
use borrow.Author.Rules.{rules}
use Rattle.load_question.proofs.is_loadable_in.Goals as goal

pub returns-in_default : goal.returns-in_default
unfolding as_loadable
returns-in_default c =
    let a = c.args in
    question_broken (as_reading a.reading) a.stakes.now a.store.now (as_locator a.locator)
    (broken_sound a.stakes.now c.in_default.field-0 (ap as_new_committee (sym c.in_default.is) ∙ c.new_committee.ensures))

pub in_order-requires : goal.in_order-requires
in_order-requires c =
    (taken_sound c.args.stakes.now c.in-Ok.total
    (ap as_new_committee (sym c.in-Ok.is) ∙ c.new_committee.ensures)).0

pub returns-then-not-in_order : goal.returns-then-not-in_order
unfolding as_loadable
returns-then-not-in_order c =
    let a = c.args in
    let t = taken_sound a.stakes.now c.in-Ok.total (ap as_new_committee (sym c.in-Ok.is) ∙ c.new_committee.ensures) in
    question_disordered (as_reading a.reading) a.stakes.now a.store.now (as_locator a.locator) t.0
    (sym c.in_order.ensures ∙ c.if-not-in_order.true)

pub sorted_positions-count-requires : goal.sorted_positions-count-requires
sorted_positions-count-requires c = (
  order_laid c.args.stakes.now
      c.args.store.now
      (sym c.in_order.ensures ∙ c.if-not-in_order.false),
  omega arith,
)

pub slice_bounds-asked_ready-end : goal.slice_bounds-asked_ready-end
slice_bounds-asked_ready-end c =
    let a = c.args in
    let q = c.sorted_positions-count.ensures in
    let laid = order_laid a.stakes.now a.store.now (sym c.in_order.ensures ∙ c.if-not-in_order.false) in
    q.1.0 ∙ sym (ap length q.1.1 ∙ sorted_count a.store.now laid)

pub asked_ready-ready-requires : goal.asked_ready-ready-requires
asked_ready-ready-requires c =
    let a = c.args in
    let t = taken_sound a.stakes.now c.in-Ok.total (ap as_new_committee (sym c.in-Ok.is) ∙ c.new_committee.ensures) in
    let o : store_in_order a.stakes.now a.store.now ≡ true = sym c.in_order.ensures ∙ c.if-not-in_order.false in
    let q = c.sorted_positions-count.ensures in
    let laid = order_laid a.stakes.now a.store.now o in
    let n = ap length q.1.1 ∙ sorted_count a.store.now laid in
    ((record { sound = t.0; in_order = o; laid = laid; places = q.1.1 }, t.1), omega (arith, q, n))

pub returns : goal.returns
unfolding as_loadable
returns c =
    let a = c.args in
    let t = taken_sound a.stakes.now c.in-Ok.total (ap as_new_committee (sym c.in-Ok.is) ∙ c.new_committee.ensures) in
    question_asked (as_reading a.reading) a.stakes.now a.store.now (as_locator a.locator) t.0
    (sym c.in_order.ensures ∙ c.if-not-in_order.false) _ c.asked_ready-ready.ensures
