use mathlib.Core.Path.{sym, ap, ◌∙◌}
use native.Mathlib.Omega.{arith}
use Rattle.base.specs.Lists.{all_of}
use Rattle.base.specs.Le.{Bytes}
use Rattle.base.specs.Checks.{refusal}
use Rattle.base.proofs.Refusals.{err_not_zero, no_err_zero}
use Rattle.record_spec.specs.Record.{block_in}
use Rattle.record_spec.specs.Verify.{head_checks, body_checks}
use Rattle.store_spec.specs.Layout.{entries}
use Rattle.store_spec.specs.Store.{records_of}
use Rattle.store_spec.specs.Entry.{block_at}
use Rattle.store_spec.specs.Check.{stored_before}
use Rattle.store_spec.proofs.Loops.{entry_room, record-part}
use Rattle.store_order.proofs.Accepting.{head_refused, body_refused, includes_decide}
use Rattle.store_order.proofs.entry_accepted.Goals as goal

pub overflow_add-from : goal.overflow_add-from
overflow_add-from c = omega (
  arith,
  (entry_room c.args.store.now c.args.at
      c.requires.1.1.1).inside,
)

pub slice_bounds-head_refusal-end : goal.slice_bounds-head_refusal-end
slice_bounds-head_refusal-end c = omega (
  arith,
  (entry_room c.args.store.now c.args.at
      c.requires.1.1.1).inside,
  c.record_end-end.ensures,
)

pub head_refusal-requires : goal.head_refusal-requires
head_refusal-requires c = rw (record-part c.args.store.now
    c.args.at c.record_end-end.result c.record_end-end.ensures)
    (entry_room c.args.store.now c.args.at
    c.requires.1.1.1).formed

pub returns-then-is_err : goal.returns-then-is_err
unfolding block_at
returns-then-is_err c =
    let head = c.head_refusal.ensures ∙ ap (λ (x : Bytes). refusal
    (head_checks c.args.stakes.now (block_in x)))
    (record-part c.args.store.now
    c.args.at c.record_end-end.result
    c.record_end-end.ensures) in
    sym (head_refused c.args.stakes.now
    c.args.store.now c.args.at
    c.requires.1.0 c.requires.1.1.1
    (λ z. err_not_zero _ (sym c.is_err.ensures.value ∙ c.if-is_err.true) (head ∙ z)))

pub slice_bounds-body_refusal-end : goal.slice_bounds-body_refusal-end
slice_bounds-body_refusal-end c = omega (
  arith,
  (entry_room c.args.store.now
      c.args.at c.requires.1.1.1).inside,
  c.record_end-end.ensures,
)

pub body_refusal-requires : goal.body_refusal-requires
body_refusal-requires c = (
  (
    rw (record-part c.args.store.now
        c.args.at c.record_end-end.result
        c.record_end-end.ensures)
        (entry_room c.args.store.now
        c.args.at
        c.requires.1.1.1).formed,
    c.requires.0.0,
  ),
  c.requires.0.1,
)

pub returns-then-is_err-2 : goal.returns-then-is_err-2
unfolding block_at
returns-then-is_err-2 c =
    let head = c.head_refusal.ensures ∙ ap
    (λ (x : Bytes). refusal (head_checks c.args.stakes.now
    (block_in x))) (record-part c.args.store.now
    c.args.at
    c.record_end-end.result c.record_end-end.ensures) in
    let body = c.body_refusal.ensures ∙ ap (λ (x : Bytes). refusal
    (body_checks c.args.stakes.now (block_in x)))
    (record-part c.args.store.now
    c.args.at
    c.record_end-end.result c.record_end-end.ensures) in
    sym (body_refused c.args.stakes.now
    c.args.store.now
    c.args.at
    c.requires.1.0
    c.requires.1.1.1 (sym head ∙ no_err_zero _ (sym c.is_err.ensures.value ∙ c.if-is_err.false))
    (λ z. err_not_zero _ (sym c.is_err-2.ensures.value ∙ c.if-is_err-2.true) (body ∙ z)))

pub slice_bounds-includes_before-end : goal.slice_bounds-includes_before-end
slice_bounds-includes_before-end c = omega (
  arith,
  (entry_room c.args.store.now
      c.args.at
      c.requires.1.1.1).inside,
  c.record_end-end.ensures,
)

pub includes_before-requires : goal.includes_before-requires
includes_before-requires c = (
  c.requires.1.0,
  (
    c.requires.1.1.0,
    rw
        (record-part c.args.store.now
        c.args.at
        c.record_end-end.result
        c.record_end-end.ensures)
        (entry_room c.args.store.now
        c.args.at
        c.requires.1.1.1).formed,
  ),
)

pub returns : goal.returns
unfolding block_at
returns c =
    let head = c.head_refusal.ensures ∙ ap
    (λ (x : Bytes). refusal (head_checks c.args.stakes.now (block_in x))) (record-part c.args.store.now
    c.args.at
    c.record_end-end.result
    c.record_end-end.ensures) in
    let body = c.body_refusal.ensures ∙ ap
    (λ (x : Bytes). refusal (body_checks c.args.stakes.now (block_in x))) (record-part c.args.store.now
    c.args.at
    c.record_end-end.result
    c.record_end-end.ensures) in
    c.includes_before.ensures
    ∙ ap (λ (x : Bytes). all_of (stored_before (entries (records_of
    c.args.store.now))
    c.args.at) (block_in x).includes)
    (record-part c.args.store.now
    c.args.at
    c.record_end-end.result
    c.record_end-end.ensures)
    ∙ sym (includes_decide c.args.stakes.now
    c.args.store.now
    c.args.at
    c.requires.1.0
    c.requires.1.1.1
    (sym head ∙ no_err_zero _ (sym c.is_err.ensures.value ∙ c.if-is_err.false)) (sym body ∙ no_err_zero _ (sym c.is_err-2.ensures.value ∙ c.if-is_err-2.false)))
