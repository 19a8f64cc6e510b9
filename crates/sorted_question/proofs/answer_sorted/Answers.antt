use mathlib.Core.Path.{◌≡◌, refl, sym, ap, ◌∙◌}
use mathlib.Core.List.{List, ◌++◌}
use Prim.Native.Nat.{ℕ, ◌*◌, ◌/◌}
use native.Mathlib.Omega.{arith}
use lib.ListN.{length, drop}
use lib.Seq.{length-take-le}
use Rattle.std.proofs.lemmas.Result.{err_from_is_err_and}
use Rattle.base.specs.Refusals.{refusal_number}
use Rattle.base.proofs.Refusals.{number_not_zero}
use Rattle.final_spec.specs.Finality.{blocks_of}
use Rattle.index_spec.specs.Index.{indexed}
use Rattle.sorted_spec.specs.Sorted.{replies_after, AskedSorted, asked}
use Rattle.sorted_step.specs.Step.{replies_words}
use Rattle.sorted_walk.proofs.Lists.{listed}
use Rattle.sorted_question.specs.Answers.{as_sorted}
use Rattle.sorted_question.proofs.Asking.{sorted_refused, sorted_unsorted, sorted_short, sorted_asked}
use Rattle.sorted_question.proofs.answer_sorted.Goals as goal

pub slice_bounds-question_refusal-end : goal.slice_bounds-question_refusal-end
slice_bounds-question_refusal-end c = refl

pub slice_bounds-question_refusal-end-2 : goal.slice_bounds-question_refusal-end-2
slice_bounds-question_refusal-end-2 c = refl

pub question_refusal-requires : goal.question_refusal-requires
question_refusal-requires c = (omega arith, omega arith)

pub returns-in_err-question : goal.returns-in_err-question
unfolding as_sorted
returns-in_err-question c =
    let a = c.args in
    let n = c.in_err-question.field-0.0 in
    let p = err_from_is_err_and c.from_residual.result c.from_residual.ensures.1 in
    let e = sorted_refused a.stakes.now a.store.now a.index.now a.locators.now a.replies.now (refusal_number n)
    c.in_err-question.ensures.refusal_value (number_not_zero n) in
    rw (p.1, p.2) (record { result_value = ap (λ (x : AskedSorted). x.answer) e; replies_after = ap (λ (x : AskedSorted). x.out) e })

pub returns-then-not-sorted : goal.returns-then-not-sorted
unfolding as_sorted
returns-then-not-sorted c =
    let a = c.args in
    let z = c.in_ok-question.ensures.count_bound.1 in
    let e = sorted_unsorted a.stakes.now a.store.now a.index.now a.locators.now a.replies.now z.sorted.sound z.sorted.in_order
    z.agrees (sym c.is_sorted_list-sorted.ensures ∙ c.if-not-sorted.true) in
    record { result_value = ap (λ (x : AskedSorted). x.answer) e; replies_after = ap (λ (x : AskedSorted). x.out) e }

pub returns-then-short : goal.returns-then-short
unfolding as_sorted
returns-then-short c =
    let a = c.args in
    let z = c.in_ok-question.ensures.count_bound.1 in
    let w = sym c.is_sorted_list-sorted.ensures ∙ c.if-not-sorted.false in
    let e = sorted_short a.stakes.now a.store.now a.index.now a.locators.now a.replies.now z.sorted.sound z.sorted.in_order
    z.agrees w
    (omega (arith, c.if-short.true, (listed a.locators.now w).whole)) in
    record { result_value = ap (λ (x : AskedSorted). x.answer) e; replies_after = ap (λ (x : AskedSorted). x.out) e }

pub slice_bounds-replies_of-end-2 : goal.slice_bounds-replies_of-end-2
slice_bounds-replies_of-end-2 c =
    let a = c.args in
    sym (length-take-le (3 * (length a.locators.now / 56)) a.replies.now
    (omega (arith, c.if-short.false)))

pub replies_of-requires : goal.replies_of-requires
replies_of-requires c =
    let a = c.args in
    let z = c.in_ok-question.ensures.count_bound.1 in
    let w = sym c.is_sorted_list-sorted.ensures ∙ c.if-not-sorted.false in
    let l = (listed a.locators.now w).whole in
    let n : length a.locators.now / 56 ≡ length (asked a.locators.now) = omega arith in
    let k = length-take-le (3 * (length a.locators.now / 56)) a.replies.now
    (omega (arith, c.if-short.false)) in
    (((z.sorted.sound, z.stake), (z.sorted.in_order, z.agrees)), (w, k ∙ ap (λ (k : ℕ). 3 * k) n))

pub returns : goal.returns
unfolding as_sorted
returns c =
    let a = c.args in
    let z = c.in_ok-question.ensures.count_bound.1 in
    let w = sym c.is_sorted_list-sorted.ensures ∙ c.if-not-sorted.false in
    let l = (listed a.locators.now w).whole in
    let n : length a.locators.now / 56 ≡ length (asked a.locators.now) = omega arith in
    let e =
    sorted_asked a.stakes.now a.store.now a.index.now a.locators.now a.replies.now z.sorted.sound z.sorted.in_order z.agrees w
    (omega (arith, c.if-short.false)) _ _ n
    (ap (λ (ws : List ℕ). ws ++ drop (3 * (length a.locators.now / 56)) a.replies.now) c.replies_of.ensures
    ∙ ap (λ (k : ℕ). replies_words (replies_after a.stakes.now (asked a.locators.now) (indexed (blocks_of a.store.now))) ++ drop (3 * k)
    a.replies.now) n)
    in
    record { result_value = ap (λ (x : AskedSorted). x.answer) e; replies_after = ap (λ (x : AskedSorted). x.out) e }
