use mathlib.Core.Path.{◌≡◌, sym, ap, ◌∙◌}
use mathlib.Core.Bool.{true}
use native.Mathlib.Omega.{arith}
use lib.ListN.{length}
use Rattle.committee.specs.Answers.{as_new_committee}
use Rattle.committee.proofs.Answers.{taken_sound, broken_sound}
use Rattle.types.specs.Values.{as_locator}
use Rattle.store_spec.specs.Store.{store_in_order}
use Rattle.store_spec.proofs.Check.{order_laid}
use Rattle.final_readings_spec.specs.Answers.{as_reading}
use Rattle.final_block_votes.proofs.Along.{sorted_count}
use Rattle.slip_spec.specs.Writing.{Written}
use Rattle.slip_write_bytes.specs.Answers.{as_slip_answer}
use Rattle.slip_write_call.proofs.Answered.{slip_broken, slip_disordered}
use borrow.Author.Rules.{rules}
use Rattle.slip_write_call.proofs.write_slip_in.Goals as goal

pub returns-in_default : goal.returns-in_default
unfolding as_slip_answer
returns-in_default c = let a = c.args in
    let e = slip_broken (as_reading a.reading) a.stakes.now a.store.now a.out.now (as_locator a.locator)
    (broken_sound a.stakes.now c.in_default.field-0 (ap as_new_committee (sym c.in_default.is) ∙ c.new_committee.ensures)) in
    record { result_value = ap (λ (x : Written). x.answer) e; out_after = ap (λ (x : Written). x.out) e }

pub in_order-requires : goal.in_order-requires
in_order-requires c = let a = c.args in
    let t = taken_sound a.stakes.now c.in-Ok.total (ap as_new_committee (sym c.in-Ok.is) ∙ c.new_committee.ensures) in
    t.0

pub returns-then-not-in_order : goal.returns-then-not-in_order
unfolding as_slip_answer
returns-then-not-in_order c = let a = c.args in
    let t = taken_sound a.stakes.now c.in-Ok.total (ap as_new_committee (sym c.in-Ok.is) ∙ c.new_committee.ensures) in
    let e = slip_disordered (as_reading a.reading) a.stakes.now a.store.now a.out.now (as_locator a.locator) t.0
    (sym c.in_order.ensures ∙ c.if-not-in_order.true) in
    record { result_value = ap (λ (x : Written). x.answer) e; out_after = ap (λ (x : Written). x.out) e }

pub sorted_positions-count-requires : goal.sorted_positions-count-requires
sorted_positions-count-requires c = let a = c.args in
    let o : store_in_order a.stakes.now a.store.now ≡ true = sym c.in_order.ensures ∙ c.if-not-in_order.false in
    (order_laid a.stakes.now a.store.now o, omega arith)

pub slice_bounds-write_found-end : goal.slice_bounds-write_found-end
slice_bounds-write_found-end c = let a = c.args in
    let o : store_in_order a.stakes.now a.store.now ≡ true = sym c.in_order.ensures ∙ c.if-not-in_order.false in
    let p = c.sorted_positions-count.ensures in
    p.1.0 ∙ sym (ap length p.1.1 ∙ sorted_count a.store.now (order_laid a.stakes.now a.store.now o))

pub write_found-requires : goal.write_found-requires
write_found-requires c = let a = c.args in
    let t = taken_sound a.stakes.now c.in-Ok.total (ap as_new_committee (sym c.in-Ok.is) ∙ c.new_committee.ensures) in
    let o : store_in_order a.stakes.now a.store.now ≡ true = sym c.in_order.ensures ∙ c.if-not-in_order.false in
    let p = c.sorted_positions-count.ensures in
    let laid = order_laid a.stakes.now a.store.now o in (
      (record { sound = t.0; in_order = o; laid = laid; places = p.1.1 }, t.1),
      omega
          (arith, p.0, p.1.0, ap length p.1.1 ∙ sorted_count a.store.now laid),
    )
