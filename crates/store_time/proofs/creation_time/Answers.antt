use mathlib.Core.Path.{◌≡◌, sym, ap, ◌∙◌}
use mathlib.Core.Bool.{true}
use mathlib.Core.Option.{none}
use native.Mathlib.Omega.{arith}
use Rattle.committee.specs.Answers.{as_new_committee}
use Rattle.committee.proofs.Answers.{taken_sound, broken_sound}
use Rattle.types.specs.Values.{as_reference}
use Rattle.record_reader.specs.Values.{as_time}
use Rattle.record_spec.specs.Record.{time_in}
use Rattle.store_spec.specs.Store.{store_in_order}
use Rattle.store_spec.proofs.Check.{order_laid}
use Rattle.store_spec.proofs.Loops.{entry_room, record-part}
use Rattle.store_spec.proofs.Found.{found_stands}
use Rattle.store_time.specs.Answers.{as_time_answer}
use Rattle.store_time.proofs.Asked.{given_time, time_broken, time_disordered, time_answered, time_unknown, time_found}
use Rattle.store_time.proofs.creation_time.Goals as goal

pub returns-in_default : goal.returns-in_default
unfolding as_time_answer
returns-in_default c =
    let a = c.args in
    time_broken a.stakes.now a.store.now (as_reference a.reference)
    (broken_sound a.stakes.now c.in_default.field-0
    (ap as_new_committee (sym c.in_default.is) ∙ c.new_committee.ensures))

pub in_order-requires : goal.in_order-requires
in_order-requires c = let a = c.args in (taken_sound a.stakes.now c.in-Ok.field-0
    (ap as_new_committee (sym c.in-Ok.is) ∙ c.new_committee.ensures)).0

pub returns-then-not-in_order : goal.returns-then-not-in_order
unfolding as_time_answer
returns-then-not-in_order c =
    let a = c.args in
    time_disordered a.stakes.now a.store.now (as_reference a.reference)
    (taken_sound a.stakes.now c.in-Ok.field-0
    (ap as_new_committee (sym c.in-Ok.is) ∙ c.new_committee.ensures)).0
    (sym c.in_order.ensures ∙ c.if-not-in_order.true)

pub lookup-at-requires : goal.lookup-at-requires
lookup-at-requires c =
    let a = c.args in
    order_laid a.stakes.now a.store.now (sym c.in_order.ensures ∙ c.if-not-in_order.false)

pub returns-then-at-eq0 : goal.returns-then-at-eq0
unfolding as_time_answer
returns-then-at-eq0 c =
    let a = c.args in
    let order : store_in_order a.stakes.now a.store.now ≡ true = sym c.in_order.ensures ∙ c.if-not-in_order.false in
    let laid = order_laid a.stakes.now a.store.now order in
    time_answered a.stakes.now a.store.now (as_reference a.reference)
    (taken_sound a.stakes.now c.in-Ok.field-0
    (ap as_new_committee (sym c.in-Ok.is) ∙ c.new_committee.ensures)).0 order none
    (time_unknown a.store.now laid (as_reference a.reference) c.lookup-at.result c.lookup-at.ensures
    c.if-at-eq0.true)

pub overflow_add-from : goal.overflow_add-from
overflow_add-from c =
    let a = c.args in
    let order : store_in_order a.stakes.now a.store.now ≡ true = sym c.in_order.ensures ∙ c.if-not-in_order.false in
    let laid = order_laid a.stakes.now a.store.now order in
    omega (
      arith,
      (entry_room a.store.now c.lookup-at.result
          (found_stands a.store.now laid (as_reference a.reference) c.lookup-at.result c.lookup-at.ensures c.if-at-eq0.false)).inside,
    )

pub record_end-end-requires : goal.record_end-end-requires
record_end-end-requires c =
    let a = c.args in
    let order : store_in_order a.stakes.now a.store.now ≡ true = sym c.in_order.ensures ∙ c.if-not-in_order.false in
    let laid = order_laid a.stakes.now a.store.now order in
    found_stands a.store.now laid (as_reference a.reference) c.lookup-at.result c.lookup-at.ensures c.if-at-eq0.false

pub slice_bounds-creation_time-end : goal.slice_bounds-creation_time-end
slice_bounds-creation_time-end c =
    let a = c.args in
    let order : store_in_order a.stakes.now a.store.now ≡ true = sym c.in_order.ensures ∙ c.if-not-in_order.false in
    let laid = order_laid a.stakes.now a.store.now order in
    omega (
      arith,
      (entry_room a.store.now c.lookup-at.result
          (found_stands a.store.now laid (as_reference a.reference) c.lookup-at.result c.lookup-at.ensures
          c.if-at-eq0.false)).inside,
      c.record_end-end.ensures,
    )

pub creation_time-requires : goal.creation_time-requires
creation_time-requires c =
    let a = c.args in
    let order : store_in_order a.stakes.now a.store.now ≡ true = sym c.in_order.ensures ∙ c.if-not-in_order.false in
    let laid = order_laid a.stakes.now a.store.now order in
    rw (record-part a.store.now c.lookup-at.result c.record_end-end.result c.record_end-end.ensures)
    (entry_room a.store.now c.lookup-at.result
    (found_stands a.store.now laid (as_reference a.reference) c.lookup-at.result
    c.lookup-at.ensures c.if-at-eq0.false)).formed

pub returns : goal.returns
unfolding as_time_answer as_time
returns c =
    let a = c.args in
    let order : store_in_order a.stakes.now a.store.now ≡ true = sym
    c.in_order.ensures ∙ c.if-not-in_order.false in
    let laid = order_laid a.stakes.now a.store.now order in
    let at = c.lookup-at.result in
    let part = record-part a.store.now at c.record_end-end.result
    c.record_end-end.ensures in
    let told : time_in _ ≡ as_time c.creation_time.result = ap time_in (sym part) ∙ sym c.creation_time.ensures in
    given_time c.creation_time.result
    ∙ time_answered a.stakes.now a.store.now (as_reference a.reference)
    (taken_sound a.stakes.now c.in-Ok.field-0
    (ap as_new_committee (sym c.in-Ok.is) ∙ c.new_committee.ensures)).0 order
    (as_time c.creation_time.result) (time_found a.store.now laid (as_reference a.reference) at
    c.lookup-at.ensures c.if-at-eq0.false ∙ told)
