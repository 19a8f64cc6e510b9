use Rattle.host_calls.specs.Calls.{encoded}
use Rattle.host_pending_bytes.specs.Pending.{stake_of, pending_stake_call}
use Rattle.pending_question.specs.Answers.{as_pending}
use native.Mathlib.Omega.{arith}
use lib.Seq.{length-take-le}
use mathlib.Core.Path.{sym, ◌∙◌}
use Rattle.host_pending.proofs.pending_stake.Goals as goal

pub slice_bounds-pending_of-end : goal.slice_bounds-pending_of-end
slice_bounds-pending_of-end c = sym (length-take-le c.stakes_of-n.result c.stakes_of-n.new.stakes
    (omega (arith, c.stakes_of-n.auto.stakes, c.stakes_of-n.ensures.0)))

pub returns-in-Ok : goal.returns-in-Ok
unfolding encoded pending_stake_call as_pending stake_of
returns-in-Ok c = rw (
  ← c.stakes_of-n.ensures.1,
  ← c.pending_of.ensures,
  c.in-Ok.is,
)

pub returns-in-Err : goal.returns-in-Err
unfolding encoded pending_stake_call as_pending stake_of
returns-in-Err c = c.refused.ensures ∙ rw (
  ← c.stakes_of-n.ensures.1,
  ← c.pending_of.ensures,
  c.in-Err.is,
)
