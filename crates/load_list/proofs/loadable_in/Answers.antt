use mathlib.Core.Path.{◌≡◌, sym, ap, ◌∙◌}
use mathlib.Core.Bool.{true}
use Prim.Native.Nat.{◌/◌, ◌≤◌}
use native.Mathlib.Nat.{mul-div-le}
use native.Mathlib.Omega.{arith}
use lib.ListN.{length}
use Rattle.committee.specs.Answers.{as_new_committee}
use Rattle.committee.proofs.Answers.{taken_sound, broken_sound}
use Rattle.store_spec.specs.Store.{store_in_order}
use Rattle.store_spec.proofs.Check.{order_laid}
use Rattle.final_spec.specs.Finality.{blocks_of}
use Rattle.final_block_votes.proofs.Along.{sorted_count}
use Rattle.list_ordinary_spec.specs.Shares.{stored_shares}
use Rattle.final_readings_spec.specs.Answers.{as_reading}
use Rattle.load_spec.specs.Question.{AskedList}
use Rattle.load_spec.proofs.Asking.{list_broken, list_disordered, list_short, list_asked}
use Rattle.load_list.specs.Answers.{as_loadable_list}
use Rattle.load_pass.proofs.Holding.{few_finals, holding_all}
use Rattle.load_list.proofs.loadable_in.Goals as goal

pub returns-in_default : goal.returns-in_default
unfolding as_loadable_list
returns-in_default c =
    let a = c.args in
    let e = list_broken (as_reading a.reading) a.stakes.now a.store.now a.places.now
    (broken_sound a.stakes.now c.in_default.field-0 (ap as_new_committee (sym c.in_default.is) ∙ c.new_committee.ensures)) in
    record { result_value = ap (λ (x : AskedList). x.answer) e; places_after = ap (λ (x : AskedList). x.places) e }

pub in_order-requires : goal.in_order-requires
in_order-requires c =
    (taken_sound c.args.stakes.now c.in-Ok.total
    (ap as_new_committee (sym c.in-Ok.is) ∙ c.new_committee.ensures)).0

pub returns-then-not-in_order : goal.returns-then-not-in_order
unfolding as_loadable_list
returns-then-not-in_order c =
    let a = c.args in
    let t = taken_sound a.stakes.now c.in-Ok.total (ap as_new_committee (sym c.in-Ok.is) ∙ c.new_committee.ensures) in
    let e = list_disordered (as_reading a.reading) a.stakes.now a.store.now a.places.now t.0
    (sym c.in_order.ensures ∙ c.if-not-in_order.true) in
    record { result_value = ap (λ (x : AskedList). x.answer) e; places_after = ap (λ (x : AskedList). x.places) e }

pub sorted_positions-count-requires : goal.sorted_positions-count-requires
sorted_positions-count-requires c = (
  order_laid c.args.stakes.now
      c.args.store.now
      (sym c.in_order.ensures ∙ c.if-not-in_order.false),
  omega arith,
)

pub slice_bounds-count_shares-end : goal.slice_bounds-count_shares-end
slice_bounds-count_shares-end c =
    let a = c.args in
    let q = c.sorted_positions-count.ensures in
    let laid = order_laid a.stakes.now a.store.now (sym c.in_order.ensures ∙ c.if-not-in_order.false) in
    q.1.0 ∙ sym (ap length q.1.1 ∙ sorted_count a.store.now laid)

pub count_shares-requires : goal.count_shares-requires
count_shares-requires c =
    let a = c.args in
    let t = taken_sound a.stakes.now c.in-Ok.total (ap as_new_committee (sym c.in-Ok.is) ∙ c.new_committee.ensures) in
    let o : store_in_order a.stakes.now a.store.now ≡ true = sym c.in_order.ensures ∙ c.if-not-in_order.false in
    let q = c.sorted_positions-count.ensures in
    let laid = order_laid a.stakes.now a.store.now o in
    let n = ap length q.1.1 ∙ sorted_count a.store.now laid in
    (record { sound = t.0; in_order = o; laid = laid; places = q.1.1 }, omega (arith, q, n))

pub returns-then-places-count_shares : goal.returns-then-places-count_shares
unfolding as_loadable_list
returns-then-places-count_shares c =
    let a = c.args in
    let t = taken_sound a.stakes.now c.in-Ok.total (ap as_new_committee (sym c.in-Ok.is) ∙ c.new_committee.ensures) in
    let o = sym c.in_order.ensures ∙ c.if-not-in_order.false in
    let e = list_short (as_reading a.reading) a.stakes.now a.store.now a.places.now t.0 o
    (omega (arith, c.if-places-count_shares.true, c.count_shares.ensures)) in
    record { result_value = ap (λ (x : AskedList). x.answer) e; places_after = ap (λ (x : AskedList). x.places) e }

pub slice_bounds-list_all-end : goal.slice_bounds-list_all-end
slice_bounds-list_all-end c =
    let a = c.args in
    let q = c.sorted_positions-count.ensures in
    let laid = order_laid a.stakes.now a.store.now (sym c.in_order.ensures ∙
    c.if-not-in_order.false) in
    q.1.0 ∙ sym (ap length q.1.1 ∙ sorted_count a.store.now laid)

pub list_all-n-requires : goal.list_all-n-requires
list_all-n-requires c =
    let a = c.args in
    let t = taken_sound a.stakes.now c.in-Ok.total (ap as_new_committee (sym c.in-Ok.is) ∙ c.new_committee.ensures) in
    let o : store_in_order a.stakes.now a.store.now ≡ true = sym
    c.in_order.ensures ∙ c.if-not-in_order.false in
    let q = c.sorted_positions-count.ensures in
    let laid = order_laid a.stakes.now a.store.now o in
    let n = ap length q.1.1 ∙ sorted_count a.store.now laid in
    let room : length (stored_shares (blocks_of a.store.now)) ≤ length a.places.now / 2 = omega
    (arith, c.if-places-count_shares.false, c.count_shares.ensures) in (
      ((record { sound = t.0; in_order = o; laid = laid; places = q.1.1 }, t.1), omega (arith, q, n)),
      omega
          (arith, room, mul-div-le (length a.places.now) 2, few_finals (as_reading a.reading) a.stakes.now (blocks_of a.store.now)),
    )

pub shape_of-places : goal.shape_of-places
shape_of-places c = c.list_all-n.ensures.1.long

pub returns : goal.returns
unfolding as_loadable_list
returns c =
    let a = c.args in
    let t = taken_sound a.stakes.now c.in-Ok.total (ap as_new_committee (sym c.in-Ok.is) ∙ c.new_committee.ensures) in
    let o = sym c.in_order.ensures ∙ c.if-not-in_order.false in
    let room : length (stored_shares (blocks_of a.store.now)) ≤ length a.places.now / 2 = omega
    (arith, c.if-places-count_shares.false, c.count_shares.ensures) in
    let x = holding_all (as_reading a.reading) a.stakes.now a.store.now o a.places.now c.list_all-n.new.places
    c.list_all-n.result c.list_all-n.ensures.0 c.list_all-n.ensures.1 in
    let e = list_asked (as_reading a.reading) a.stakes.now a.store.now a.places.now t.0 o room _ _ x.0 x.1 in
    record { result_value = ap (λ (y : AskedList). y.answer) e; places_after = ap (λ (y : AskedList). y.places) e }
