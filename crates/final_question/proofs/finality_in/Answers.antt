use Rattle.committee_set.specs.AuthoritySet.{stake_of}
use mathlib.Core.Path.{◌≡◌, sym, ap, ◌∙◌}
use mathlib.Core.Bool.{true, false}
use native.Mathlib.Omega.{arith}
use lib.ListN.{length}
use Rattle.committee.specs.Committee.{quorum_of}
use Rattle.committee.specs.Answers.{as_new_committee}
use Rattle.committee.proofs.Answers.{taken_sound, broken_sound}
use Rattle.types.specs.Values.{as_locator}
use Rattle.store_spec.specs.Store.{store_in_order}
use Rattle.store_spec.proofs.Check.{order_laid}
use Rattle.final_spec.specs.Finality.{Asked}
use Rattle.final_readings_spec.specs.Answers.{as_reading}
use Rattle.final_question.specs.Answers.{as_finality}
use Rattle.final_block_votes.proofs.Along.{sorted_count}
use Rattle.final_certifying.proofs.Finals.{final_in_by}
use Rattle.final_question.proofs.Asking.{finality_broken, finality_disordered, finality_short, finality_asked}
use Rattle.final_question.proofs.finality_in.Goals as goal

pub returns-in_default : goal.returns-in_default
unfolding as_finality
returns-in_default c = let a = c.args in
    let e = finality_broken (as_reading a.reading) a.stakes.now a.store.now a.positions.now (as_locator a.locator)
    (broken_sound a.stakes.now c.in_default.field-0 (ap as_new_committee (sym c.in_default.is) ∙ c.new_committee.ensures)) in
    record { result_value = ap (λ (x : Asked). x.answer) e; positions_after = ap (λ (x : Asked). x.positions) e }

pub in_order-requires : goal.in_order-requires
in_order-requires c = (taken_sound c.args.stakes.now c.in-Ok.total
    (ap as_new_committee (sym c.in-Ok.is) ∙ c.new_committee.ensures)).0

pub returns-then-not-in_order : goal.returns-then-not-in_order
unfolding as_finality
returns-then-not-in_order c = let a = c.args in
    let t = taken_sound a.stakes.now c.in-Ok.total (ap as_new_committee (sym c.in-Ok.is) ∙ c.new_committee.ensures) in
    let e = finality_disordered (as_reading a.reading) a.stakes.now a.store.now a.positions.now (as_locator a.locator) t.0
    (sym c.in_order.ensures ∙ c.if-not-in_order.true) in
    record { result_value = ap (λ (x : Asked). x.answer) e; positions_after = ap (λ (x : Asked). x.positions) e }

pub sorted_positions-count-requires : goal.sorted_positions-count-requires
sorted_positions-count-requires c = (
  order_laid c.args.stakes.now
      c.args.store.now
      (sym c.in_order.ensures ∙ c.if-not-in_order.false),
  omega arith,
)

pub returns-then-positions-count : goal.returns-then-positions-count
unfolding as_finality
returns-then-positions-count c = let a = c.args in
    let t = taken_sound a.stakes.now c.in-Ok.total (ap as_new_committee (sym c.in-Ok.is) ∙ c.new_committee.ensures) in
    let e = finality_short (as_reading a.reading) a.stakes.now a.store.now a.positions.now (as_locator a.locator) t.0
    (sym c.in_order.ensures ∙ c.if-not-in_order.false)
    (omega (arith, c.if-positions-count.true, c.sorted_positions-count.ensures)) in
    record { result_value = ap (λ (x : Asked). x.answer) e; positions_after = ap (λ (x : Asked). x.positions) e }

pub slice_bounds-certifying_blocks_in-end : goal.slice_bounds-certifying_blocks_in-end
slice_bounds-certifying_blocks_in-end c = let a = c.args in
    let q = c.sorted_positions-count.ensures in
    let laid = order_laid a.stakes.now a.store.now (sym c.in_order.ensures ∙ c.if-not-in_order.false) in
    q.1.0 ∙ sym (ap length q.1.1 ∙ sorted_count a.store.now laid)

pub certifying_blocks_in-found-requires : goal.certifying_blocks_in-found-requires
certifying_blocks_in-found-requires c = let a = c.args in
    let t = taken_sound a.stakes.now c.in-Ok.total (ap as_new_committee (sym c.in-Ok.is) ∙ c.new_committee.ensures) in
    let o : store_in_order a.stakes.now a.store.now ≡ true = sym c.in_order.ensures ∙
    c.if-not-in_order.false in
    let q = c.sorted_positions-count.ensures in
    let n = ap length q.1.1 ∙ sorted_count a.store.now (order_laid a.stakes.now a.store.now o) in (
      (record { sound = t.0; in_order = o; laid = order_laid a.stakes.now a.store.now o; places = q.1.1 }, t.1),
      (omega (arith, q, n), omega (arith, q, n, c.if-positions-count.false)),
    )

pub stake_of-requires : goal.stake_of-requires
stake_of-requires c = (taken_sound c.args.stakes.now c.in-Ok.total (ap as_new_committee (sym c.in-Ok.is) ∙ c.new_committee.ensures)).0

pub returns-then-is_quorum : goal.returns-then-is_quorum
unfolding as_finality
returns-then-is_quorum c = let a = c.args in
    let l = as_locator a.locator in
    let t = taken_sound a.stakes.now c.in-Ok.total (ap as_new_committee (sym c.in-Ok.is) ∙ c.new_committee.ensures) in
    let q = c.certifying_blocks_in-found.ensures in
    let f = final_in_by (as_reading a.reading) a.stakes.now a.store.now l c.in-Ok.total.0
    c.certifying_blocks_in-found.result.authors t.1 q.authors_value in
    let g : true ≡ quorum_of c.in-Ok.total.0 (stake_of a.stakes.now c.certifying_blocks_in-found.result.authors) = rw
    (← c.stake_of.ensures) (sym c.if-is_quorum.true ∙ c.is_quorum.ensures) in
    let e = finality_asked (as_reading a.reading) a.stakes.now a.store.now a.positions.now l t.0
    (sym c.in_order.ensures ∙ c.if-not-in_order.false)
    (omega (
      arith,
      c.if-positions-count.false,
      c.sorted_positions-count.ensures,
    )) true _ _ (g ∙ f) q.blocks_value q.positions_after in
    record { result_value = ap (λ (x : Asked). x.answer) e; positions_after = ap (λ (x : Asked). x.positions) e }

pub returns : goal.returns
unfolding as_finality
returns c = let a = c.args in
    let l = as_locator a.locator in
    let t = taken_sound a.stakes.now c.in-Ok.total (ap as_new_committee (sym c.in-Ok.is) ∙ c.new_committee.ensures) in
    let q = c.certifying_blocks_in-found.ensures in
    let f = final_in_by (as_reading a.reading) a.stakes.now a.store.now l c.in-Ok.total.0
    c.certifying_blocks_in-found.result.authors t.1 q.authors_value in
    let g : false ≡ quorum_of c.in-Ok.total.0 (stake_of a.stakes.now c.certifying_blocks_in-found.result.authors) =
    rw (← c.stake_of.ensures) (sym c.if-is_quorum.false ∙ c.is_quorum.ensures) in
    let e = finality_asked (as_reading a.reading) a.stakes.now a.store.now a.positions.now l t.0
    (sym c.in_order.ensures ∙ c.if-not-in_order.false)
    (omega (
      arith,
      c.if-positions-count.false,
      c.sorted_positions-count.ensures,
    )) false _ _ (g ∙ f) q.blocks_value q.positions_after in
    record { result_value = ap (λ (x : Asked). x.answer) e; positions_after = ap (λ (x : Asked). x.positions) e }
