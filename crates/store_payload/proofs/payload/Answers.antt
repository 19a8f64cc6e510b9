use Prim.Native.Nat.{◌+◌}
use mathlib.Core.Path.{sym, ap, ◌∙◌}
use native.Mathlib.Omega.{arith}
use native.Mathlib.Nat.{add-sub_cancel_left}
use lib.ListN.{length}
use borrow.Author.Tests.{leb-true}
use Rattle.base.specs.Refusals.{refusal_number}
use Rattle.types.specs.Values.{as_locator}
use Rattle.store_payload.specs.Answers.{as_place, place_within}
use Rattle.store_payload.proofs.Located.{place_refused, place_stands}
use Rattle.store_payload.proofs.payload.Goals as goal

pub returns-in_default : goal.returns-in_default
unfolding as_place
returns-in_default c = (place_refused c.args.stakes.now
    c.args.store.now (as_locator c.args.locator)
    (refusal_number c.in_default.field-0) (sym (ap as_place c.in_default.is) ∙ c.find_payload.ensures.result_value)).0

pub overflow_add-end : goal.overflow_add-end
unfolding place_within
overflow_add-end c = omega (
  arith,
  leb-true (c.in-Ok.start + c.in-Ok.len)
      (length c.args.store.now)
      (rw c.in-Ok.is at c.find_payload.ensures.result_value_2),
)

pub slice_bounds-result-end-2 : goal.slice_bounds-result-end-2
unfolding place_within
slice_bounds-result-end-2 c = omega (
  arith,
  leb-true (c.in-Ok.start + c.in-Ok.len)
      (length c.args.store.now)
      (rw c.in-Ok.is at c.find_payload.ensures.result_value_2),
)

pub returns : goal.returns
unfolding as_place place_within
returns c =
    let start = c.in-Ok.start in
    let count = c.in-Ok.len in
    rw (add-sub_cancel_left start count)
    (place_stands c.args.stakes.now
    c.args.store.now
    (as_locator c.args.locator) start count
    (sym (ap as_place c.in-Ok.is) ∙ c.find_payload.ensures.result_value)
    (leb-true (c.in-Ok.start + c.in-Ok.len)
    (length c.args.store.now)
    (rw c.in-Ok.is at c.find_payload.ensures.result_value_2))).0
