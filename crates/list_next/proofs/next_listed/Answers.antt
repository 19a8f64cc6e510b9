use mathlib.Core.Path.{◌≡◌, sym, ap, ◌∙◌}
use mathlib.Core.Bool.{true}
use native.Mathlib.Omega.{arith}
use lib.ListN.{length}
use Rattle.committee.specs.Answers.{as_new_committee}
use Rattle.committee.proofs.Answers.{taken_sound, broken_sound}
use Rattle.store_spec.specs.Store.{store_in_order}
use Rattle.store_spec.proofs.Check.{order_laid}
use Rattle.final_spec.specs.Finality.{blocks_of}
use Rattle.final_readings_spec.specs.Answers.{as_reading}
use Rattle.list_readings_spec.specs.Answers.{is_ordinary}
use Rattle.list_readings_spec.specs.Lists.{listing}
use Rattle.final_block_votes.proofs.Along.{sorted_count}
use Rattle.types.specs.Values.{as_maybe}
use Rattle.list_next.specs.Answers.{as_next_final}
use Rattle.list_next.proofs.Asking.{next_broken, next_disordered, next_answered}
use borrow.Author.Rules.{rules}
use Rattle.list_next.proofs.next_listed.Goals as goal

pub returns-in_default : goal.returns-in_default
unfolding as_next_final
returns-in_default c = let a = c.args in
    next_broken a.stakes.now a.store.now (listing (is_ordinary a.list) (as_reading a.reading) a.stakes.now (blocks_of a.store.now))
    (as_maybe a.after) (broken_sound a.stakes.now c.in_default.field-0 (ap as_new_committee (sym c.in_default.is) ∙ c.new_committee.ensures))

pub in_order-requires : goal.in_order-requires
in_order-requires c = let a = c.args in
    let t = taken_sound a.stakes.now c.in-Ok.total (ap as_new_committee (sym c.in-Ok.is) ∙ c.new_committee.ensures) in
    t.0

pub returns-then-not-in_order : goal.returns-then-not-in_order
unfolding as_next_final
returns-then-not-in_order c = let a = c.args in
    let t = taken_sound a.stakes.now c.in-Ok.total (ap as_new_committee (sym c.in-Ok.is) ∙ c.new_committee.ensures) in
    next_disordered a.stakes.now a.store.now (listing (is_ordinary a.list) (as_reading a.reading) a.stakes.now (blocks_of a.store.now))
    (as_maybe a.after) t.0 (sym c.in_order.ensures ∙ c.if-not-in_order.true)

pub sorted_positions-count-requires : goal.sorted_positions-count-requires
sorted_positions-count-requires c = let a = c.args in
    let o : store_in_order a.stakes.now a.store.now ≡ true = sym c.in_order.ensures ∙ c.if-not-in_order.false in
    (order_laid a.stakes.now a.store.now o, omega arith)

pub slice_bounds-next_after-end : goal.slice_bounds-next_after-end
slice_bounds-next_after-end c = let a = c.args in
    let o : store_in_order a.stakes.now a.store.now ≡ true = sym c.in_order.ensures ∙ c.if-not-in_order.false in
    let q = c.sorted_positions-count.ensures in
    q.1.0 ∙ sym (ap length q.1.1 ∙ sorted_count a.store.now (order_laid a.stakes.now a.store.now o))

pub next_after-next-requires : goal.next_after-next-requires
next_after-next-requires c = let a = c.args in
    let t = taken_sound a.stakes.now c.in-Ok.total (ap as_new_committee (sym c.in-Ok.is) ∙ c.new_committee.ensures) in
    let o : store_in_order a.stakes.now a.store.now ≡ true = sym c.in_order.ensures ∙ c.if-not-in_order.false in
    let q = c.sorted_positions-count.ensures in
    let n = ap length q.1.1 ∙ sorted_count a.store.now (order_laid a.stakes.now a.store.now o) in
    ((record { sound = t.0; in_order = o; laid = order_laid a.stakes.now a.store.now o; places = q.1.1 }, t.1), omega (arith, q, n))

pub returns : goal.returns
unfolding as_next_final
returns c = let a = c.args in
    let t = taken_sound a.stakes.now c.in-Ok.total (ap as_new_committee (sym c.in-Ok.is) ∙ c.new_committee.ensures) in
    let o : store_in_order a.stakes.now a.store.now ≡ true = sym
    c.in_order.ensures ∙ c.if-not-in_order.false in
    next_answered a.stakes.now a.store.now (listing (is_ordinary a.list) (as_reading a.reading) a.stakes.now (blocks_of a.store.now))
    (as_maybe a.after) t.0 o _ c.next_after-next.ensures
