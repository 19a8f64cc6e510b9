use mathlib.Core.Path.{ap}
use Rattle.std.proofs.lemmas.Result.{err_from_is_err_and}
use Rattle.store_payload.specs.Answers.{as_place}
use Rattle.base.specs.Checks.{refused}
use Rattle.host_locators.specs.Locators.{asked}
use Rattle.host_payload_bytes.proofs.payload_place.Goals as goal

pub returns-in_err-share : goal.returns-in_err-share
unfolding as_place asked
returns-in_err-share c =
    let told = c.in_err-share.ensures in
    let p = err_from_is_err_and c.from_residual.result c.from_residual.ensures.1 in
    rw (p.1, p.2, told.0) (ap refused told.1)

pub returns : goal.returns
unfolding asked
returns c = rw c.in_ok-share.ensures c.find_payload.ensures.result_value
