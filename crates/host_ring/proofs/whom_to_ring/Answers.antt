use mathlib.Core.Path.{sym, ap, ◌∙◌}
use native.Mathlib.Omega.{arith}
use lib.Seq.{length-take-le}
use Rattle.host_calls.specs.Calls.{encoded}
use Rattle.host_ring.specs.Ring.{RingCall}
use Rattle.host_ring.proofs.Rings.{ring_tellable, call_told}
use Rattle.host_ring.proofs.whom_to_ring.Goals as goal

pub slice_bounds-ring_of-end : goal.slice_bounds-ring_of-end
slice_bounds-ring_of-end c = sym (length-take-le c.stakes_of-n.result c.stakes_of-n.new.stakes
    (omega (arith, c.stakes_of-n.auto.stakes, c.stakes_of-n.ensures.0)))

pub tell-requires : goal.tell-requires
tell-requires c = rw c.ring_of-answer.ensures (ring_tellable _ _ _ _ _ _)

pub returns : goal.returns
returns c =
    let a = c.args in
    let e =
    call_told a.stakes.now a.store.now a.table.now a.low a.high a.locator.now a.found.now _ _
    c.stakes_of-n.ensures.1 c.ring_of-answer.ensures in record {
      value = c.tell.ensures.0 ∙ sym (ap (λ (x : RingCall). encoded x.answer) e);
      found_after = c.tell.ensures.1 ∙ sym
          (ap (λ (x : RingCall). x.found) e);
    }
