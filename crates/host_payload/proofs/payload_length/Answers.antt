use mathlib.Core.Path.{sym, ◌∙◌}
use lib.Seq.{length-take-le}
use native.Mathlib.Omega.{arith}
use Rattle.store_payload.specs.Answers.{as_payload_length}
use Rattle.host_payload_bytes.specs.Payload.{payload_length_call}
use Rattle.host_calls.specs.Calls.{encoded}
use Rattle.host_payload.proofs.payload_length.Goals as goal

pub slice_bounds-payload_length-end : goal.slice_bounds-payload_length-end
slice_bounds-payload_length-end c = sym (length-take-le c.stakes_of-n.result c.stakes_of-n.new.stakes
    (omega (arith, c.stakes_of-n.auto.stakes, c.stakes_of-n.ensures.0)))

pub returns-in-Ok : goal.returns-in-Ok
unfolding encoded payload_length_call as_payload_length
returns-in-Ok c = rw (
  ← c.stakes_of-n.ensures.1,
  ← c.payload_length.ensures,
  c.in-Ok.is,
)

pub returns-in-Err : goal.returns-in-Err
unfolding encoded payload_length_call as_payload_length
returns-in-Err c = c.refused.ensures ∙ rw (
  ← c.stakes_of-n.ensures.1,
  ← c.payload_length.ensures,
  c.in-Err.is,
)
