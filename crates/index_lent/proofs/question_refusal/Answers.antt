use mathlib.Core.Path.{◌≡◌, sym, ap, ◌∙◌}
use mathlib.Core.Bool.{true}
use native.Mathlib.Omega.{arith}
use lib.ListN.{length}
use lib.Seq.{length-take-le}
use Rattle.committee.specs.Answers.{as_new_committee}
use Rattle.committee.proofs.Answers.{taken_sound, broken_sound}
use Rattle.store_spec.specs.Store.{store_in_order}
use Rattle.store_spec.proofs.Check.{order_laid}
use Rattle.final_block_votes.proofs.Along.{sorted_count}
use Rattle.final_block_votes.proofs.Sorting.{some_committee}
use Rattle.index_list_spec.proofs.Asking.{refusal_broken, refusal_disordered, refusal_disagrees, refusal_none}
use Rattle.index_lent.proofs.question_refusal.Goals as goal

pub returns-in_default : goal.returns-in_default
returns-in_default c =
    let a = c.args in
    let b = broken_sound a.stakes.now c.in_default.field-0 (ap as_new_committee (sym c.in_default.is) ∙ c.new_committee.ensures) in
    record { refusal_value = refusal_broken a.stakes.now a.store.now a.index.now b; count_bound = tt }

pub in_order-requires : goal.in_order-requires
in_order-requires c =
    (taken_sound c.args.stakes.now c.in-Ok.total
    (ap as_new_committee (sym c.in-Ok.is) ∙ c.new_committee.ensures)).0

pub returns-then-not-in_order : goal.returns-then-not-in_order
returns-then-not-in_order c =
    let a = c.args in
    let t = taken_sound a.stakes.now c.in-Ok.total (ap as_new_committee (sym c.in-Ok.is) ∙ c.new_committee.ensures) in record {
      refusal_value = refusal_disordered a.stakes.now a.store.now a.index.now t.0 (sym c.in_order.ensures ∙ c.if-not-in_order.true);
      count_bound = tt;
    }

pub sorted_positions-count-requires : goal.sorted_positions-count-requires
sorted_positions-count-requires c = (
  order_laid c.args.stakes.now
      c.args.store.now
      (sym c.in_order.ensures ∙ c.if-not-in_order.false),
  c.requires.0,
)

pub slice_bounds-agrees-end : goal.slice_bounds-agrees-end
slice_bounds-agrees-end c = omega (
  arith,
  c.sorted_positions-count.ensures.0,
  c.requires.0,
  c.sorted_positions-count.auto,
)

pub slice_bounds-agrees-end-2 : goal.slice_bounds-agrees-end-2
slice_bounds-agrees-end-2 c = sym (length-take-le _ _ (omega (
  arith,
  c.sorted_positions-count.ensures.0,
  c.requires.0,
  c.sorted_positions-count.auto,
)))

pub agrees-requires : goal.agrees-requires
agrees-requires c =
    let a = c.args in
    let t = taken_sound a.stakes.now c.in-Ok.total (ap as_new_committee (sym c.in-Ok.is) ∙ c.new_committee.ensures) in
    let o : store_in_order a.stakes.now a.store.now ≡ true = sym c.in_order.ensures ∙
    c.if-not-in_order.false in
    let l = order_laid a.stakes.now a.store.now o in
    let p = c.sorted_positions-count.ensures in (
      some_committee (record { sound = t.0; in_order = o; laid = l; places = p.1.1 }),
      omega (
        arith,
        p.0,
        p.1.0,
        c.requires.1,
        ap length p.1.1 ∙ sorted_count a.store.now l,
      ),
    )

pub returns-then-not-agrees : goal.returns-then-not-agrees
returns-then-not-agrees c =
    let a = c.args in
    let t = taken_sound a.stakes.now c.in-Ok.total (ap as_new_committee (sym c.in-Ok.is) ∙ c.new_committee.ensures) in
    let o : store_in_order a.stakes.now a.store.now ≡ true = sym
    c.in_order.ensures ∙ c.if-not-in_order.false in record {
      refusal_value = refusal_disagrees a.stakes.now a.store.now a.index.now t.0 o
          (sym c.agrees.ensures.value ∙ c.if-not-agrees.true);
      count_bound = tt;
    }

pub returns : goal.returns
returns c =
    let a = c.args in
    let t = taken_sound a.stakes.now c.in-Ok.total (ap as_new_committee (sym c.in-Ok.is) ∙ c.new_committee.ensures) in
    let o : store_in_order a.stakes.now a.store.now ≡ true = sym
    c.in_order.ensures ∙ c.if-not-in_order.false in
    let p = c.sorted_positions-count.ensures in
    let g = c.if-not-agrees.false in
    let w = sym c.agrees.ensures.value ∙ g in record {
      refusal_value = refusal_none a.stakes.now a.store.now a.index.now t.0 o w;
      count_bound = (
        p.0,
        record {
          stake = t.1;
          sorted = record { sound = t.0; in_order = o; laid = order_laid a.stakes.now a.store.now o; places = p.1.1 };
          agrees = w;
          known = c.agrees.ensures.known g;
        },
      );
    }
