use Rattle.list_bulk.proofs.Asking.{bulk_broken, bulk_disordered, bulk_asked}
use Rattle.list_stretch_bytes.specs.Answers.{as_stretches}
use Rattle.list_stretches_spec.specs.Bulk.{AskedBulk}
use Rattle.final_readings_spec.specs.Answers.{as_reading}
use Rattle.list_readings_spec.specs.Answers.{is_ordinary}
use Rattle.list_readings_spec.specs.Lists.{listing}
use Rattle.final_block_votes.proofs.Along.{sorted_count}
use Rattle.types.specs.Values.{as_maybe}
use Rattle.final_spec.specs.Finality.{blocks_of}
use Rattle.store_spec.proofs.Check.{order_laid}
use Rattle.store_spec.specs.Store.{store_in_order}
use Rattle.committee.proofs.Answers.{taken_sound, broken_sound}
use Rattle.committee.specs.Answers.{as_new_committee}
use lib.ListN.{length}
use native.Mathlib.Omega.{arith}
use mathlib.Core.Bool.{true}
use mathlib.Core.Path.{◌≡◌, sym, ap, ◌∙◌}
use borrow.Author.Rules.{rules}
use Rattle.list_bulk.proofs.list_stretches.Goals as goal

pub returns-in_default : goal.returns-in_default
unfolding as_stretches
returns-in_default c = let a = c.args in
    let e = bulk_broken a.stakes.now a.store.now (listing (is_ordinary a.list) (as_reading a.reading) a.stakes.now (blocks_of a.store.now))
    a.out.now (as_maybe a.after) (broken_sound a.stakes.now c.in_default.field-0
    (ap as_new_committee (sym c.in_default.is) ∙ c.new_committee.ensures)) in
    record { result_value = ap (λ (x : AskedBulk). x.answer) e; out_after = ap (λ (x : AskedBulk). x.out) e }

pub in_order-requires : goal.in_order-requires
in_order-requires c = (taken_sound c.args.stakes.now
    c.in-Ok.total (ap as_new_committee (sym c.in-Ok.is) ∙ c.new_committee.ensures)).0

pub returns-then-not-in_order : goal.returns-then-not-in_order
unfolding as_stretches
returns-then-not-in_order c = let a = c.args in
    let k = listing (is_ordinary a.list) (as_reading a.reading) a.stakes.now (blocks_of a.store.now) in
    let t = taken_sound a.stakes.now c.in-Ok.total (ap as_new_committee (sym c.in-Ok.is) ∙ c.new_committee.ensures) in
    let e = bulk_disordered a.stakes.now a.store.now k a.out.now (as_maybe a.after) t.0
    (sym c.in_order.ensures ∙ c.if-not-in_order.true) in
    record { result_value = ap (λ (x : AskedBulk). x.answer) e; out_after = ap (λ (x : AskedBulk). x.out) e }

pub sorted_positions-count-requires : goal.sorted_positions-count-requires
sorted_positions-count-requires c = let a = c.args in
    (order_laid a.stakes.now a.store.now (sym c.in_order.ensures ∙ c.if-not-in_order.false), omega arith)

pub slice_bounds-fill_stretches-end : goal.slice_bounds-fill_stretches-end
slice_bounds-fill_stretches-end c = let a = c.args in
    let q = c.sorted_positions-count.ensures in
    let laid = order_laid a.stakes.now a.store.now (sym c.in_order.ensures ∙ c.if-not-in_order.false) in
    q.1.0 ∙ sym (ap length q.1.1 ∙ sorted_count a.store.now laid)

pub fill_stretches-requires : goal.fill_stretches-requires
fill_stretches-requires c = let a = c.args in
    let k = listing (is_ordinary a.list) (as_reading a.reading) a.stakes.now (blocks_of a.store.now) in
    let t = taken_sound a.stakes.now c.in-Ok.total (ap as_new_committee (sym c.in-Ok.is) ∙ c.new_committee.ensures) in
    let o : store_in_order a.stakes.now a.store.now ≡ true = sym c.in_order.ensures ∙ c.if-not-in_order.false in
    let q = c.sorted_positions-count.ensures in
    let n = ap length q.1.1 ∙ sorted_count a.store.now (order_laid a.stakes.now a.store.now o) in
    ((record { sound = t.0; in_order = o; laid = order_laid a.stakes.now a.store.now o; places = q.1.1 }, t.1), omega (arith, q, n))

pub returns : goal.returns
returns c = let a = c.args in
    let k = listing (is_ordinary a.list) (as_reading a.reading) a.stakes.now (blocks_of a.store.now) in
    let t = taken_sound a.stakes.now c.in-Ok.total (ap as_new_committee (sym c.in-Ok.is) ∙ c.new_committee.ensures) in
    let o : store_in_order a.stakes.now a.store.now ≡ true = sym
    c.in_order.ensures ∙ c.if-not-in_order.false in
    let q = c.fill_stretches.ensures in
    let e = bulk_asked a.stakes.now a.store.now k a.out.now (as_maybe a.after) t.0 o _ _ q.result_value q.out_after in
    record { result_value = ap (λ (x : AskedBulk). x.answer) e; out_after = ap (λ (x : AskedBulk). x.out) e }
