use mathlib.Core.Path.{refl, sym, ap}
use native.Mathlib.Omega.{arith}
use lib.Seq.{length-take-le}
use Rattle.std.proofs.lemmas.Result.{err_from_is_err_and}
use Rattle.base.specs.Refusals.{refusal_number}
use Rattle.base.proofs.Refusals.{number_not_zero}
use Rattle.final_spec.specs.Finality.{blocks_of}
use Rattle.types.specs.Values.{as_maybe}
use Rattle.list_stretches_spec.specs.Bulk.{AskedBulk}
use Rattle.final_readings_spec.specs.Readings.{old}
use Rattle.final_readings_spec.specs.Answers.{as_reading}
use Rattle.list_readings_spec.specs.Answers.{is_ordinary}
use Rattle.list_readings_spec.specs.Lists.{listing}
use Rattle.list_stretch_bytes.specs.Answers.{as_stretches}
use Rattle.index_list.proofs.Refused.{indexed_refused, indexed_asked}
use Rattle.index_list.proofs.list_stretches_indexed.Goals as goal

pub slice_bounds-question_refusal-end : goal.slice_bounds-question_refusal-end
slice_bounds-question_refusal-end c = refl

pub slice_bounds-question_refusal-end-2 : goal.slice_bounds-question_refusal-end-2
slice_bounds-question_refusal-end-2 c = refl

pub question_refusal-requires : goal.question_refusal-requires
question_refusal-requires c = (omega arith, omega arith)

pub returns-in_err-question : goal.returns-in_err-question
unfolding as_stretches
returns-in_err-question c =
    let a = c.args in
    let k = listing (is_ordinary a.list) old a.stakes.now (blocks_of a.store.now) in
    let n = c.in_err-question.field-0.0 in
    let p = err_from_is_err_and c.from_residual.result c.from_residual.ensures.1 in
    let e = indexed_refused a.stakes.now a.store.now a.index.now k a.out.now (as_maybe a.after) (refusal_number n)
    c.in_err-question.ensures.refusal_value (number_not_zero n) in
    rw (p.1, p.2) (record { result_value = ap (λ (x : AskedBulk). x.answer) e; out_after = ap (λ (x : AskedBulk). x.out) e })

pub slice_bounds-order-end : goal.slice_bounds-order-end
slice_bounds-order-end c =
    let q = c.question_refusal in
    omega (arith, c.in_ok-question.ensures.count_bound.0, q.auto.order)

pub slice_bounds-fill_stretches-end : goal.slice_bounds-fill_stretches-end
slice_bounds-fill_stretches-end c =
    let q = c.question_refusal in
    sym (length-take-le c.in_ok-question.question.count _ (omega (arith, c.in_ok-question.ensures.count_bound.0, q.auto.order)))

pub fill_stretches-requires : goal.fill_stretches-requires
fill_stretches-requires c =
    let q = c.question_refusal in
    let z = c.in_ok-question.ensures.count_bound in
    ((z.1.sorted, z.1.stake), omega (arith, z.0, q.auto.order, length-take-le c.in_ok-question.question.count q.new.order (omega (arith, z.0, q.auto.order))))

pub returns : goal.returns
unfolding as_reading
returns c =
    let a = c.args in
    let k = listing (is_ordinary a.list) old a.stakes.now (blocks_of a.store.now) in
    let z = c.in_ok-question.ensures.count_bound.1 in
    let f = c.fill_stretches.ensures in
    let e = indexed_asked a.stakes.now a.store.now a.index.now k a.out.now (as_maybe a.after)
    z.sorted.sound z.sorted.in_order z.agrees _ _ f.result_value f.out_after in
    record { result_value = ap (λ (x : AskedBulk). x.answer) e; out_after = ap (λ (x : AskedBulk). x.out) e }
