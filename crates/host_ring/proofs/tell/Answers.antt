use mathlib.Core.Path.{ap, ◌∙◌}
use Rattle.ring_fewest.specs.Answers.{as_ring}
use Rattle.host_calls.specs.Calls.{encoded}
use Rattle.host_add.specs.Add.{aggregator_bytes}
use Rattle.host_ring.specs.Ring.{ring_told}
use Rattle.host_ring.proofs.tell.Goals as goal

pub write_aggregator-requires : goal.write_aggregator-requires
unfolding as_ring
write_aggregator-requires c = c.requires.room _ (ap as_ring c.in-Ok.is)

pub returns-in-Ok : goal.returns-in-Ok
unfolding as_ring aggregator_bytes ring_told encoded
returns-in-Ok c = rw c.in-Ok.is (c.count.ensures, c.write_aggregator.ensures)

pub returns-in-Err : goal.returns-in-Err
unfolding as_ring ring_told encoded
returns-in-Err c = (c.refused.ensures ∙ rw c.in-Err.is, rw c.in-Err.is)
