use Prim.Native.Nat.{◌+◌}
use mathlib.Core.Path.{sym, ap, ◌∙◌}
use lib.ListN.{length}
use borrow.Author.Tests.{leb-true}
use Rattle.std.proofs.lemmas.Result.{err_from_is_err_and}
use Rattle.base.specs.Refusals.{refusal_number}
use Rattle.types.specs.Values.{as_locator}
use Rattle.store_payload.specs.Answers.{as_payload_length, as_place, place_within}
use Rattle.store_payload.proofs.Located.{place_refused, place_stands}
use Rattle.store_payload.proofs.payload_length.Goals as goal

pub returns-in_err-len : goal.returns-in_err-len
unfolding as_place as_payload_length
returns-in_err-len c =
    let p = err_from_is_err_and c.from_residual.result c.from_residual.ensures.1 in
    let e = (place_refused c.args.stakes.now c.args.store.now (as_locator c.args.locator)
    (refusal_number c.in_err-len.field-0.0) (sym (ap as_place c.in_err-len.was) ∙ c.find_payload.ensures.result_value)).1 in
    rw (p.1, p.2) e

pub returns : goal.returns
unfolding as_place place_within as_payload_length
returns c =
    (place_stands c.args.stakes.now c.args.store.now
    (as_locator c.args.locator) c.in_ok-len.field-0-0 c.in_ok-len.len
    (sym (ap as_place c.in_ok-len.was) ∙ c.find_payload.ensures.result_value)
    (leb-true (c.in_ok-len.field-0-0 + c.in_ok-len.len)
    (length c.args.store.now)
    (rw c.in_ok-len.was at c.find_payload.ensures.result_value_2))).1
