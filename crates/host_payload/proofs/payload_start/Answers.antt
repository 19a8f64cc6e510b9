use mathlib.Core.Path.{sym, ◌∙◌}
use lib.Seq.{length-take-le}
use native.Mathlib.Omega.{arith}
use Rattle.store_payload.specs.Answers.{as_place}
use Rattle.host_payload_bytes.specs.Payload.{start_of, payload_start_call}
use Rattle.host_calls.specs.Calls.{encoded}
use Rattle.host_payload.proofs.payload_start.Goals as goal

pub slice_bounds-payload_place-end : goal.slice_bounds-payload_place-end
slice_bounds-payload_place-end c = sym (length-take-le c.stakes_of-n.result c.stakes_of-n.new.stakes
    (omega (arith, c.stakes_of-n.auto.stakes, c.stakes_of-n.ensures.0)))

pub returns-in-Ok : goal.returns-in-Ok
unfolding encoded payload_start_call as_place start_of
returns-in-Ok c = rw (
  ← c.stakes_of-n.ensures.1,
  ← c.payload_place.ensures,
  c.in-Ok.is,
)

pub returns-in-Err : goal.returns-in-Err
unfolding encoded payload_start_call as_place start_of
returns-in-Err c = c.refused.ensures ∙ rw (
  ← c.stakes_of-n.ensures.1,
  ← c.payload_place.ensures,
  c.in-Err.is,
)
