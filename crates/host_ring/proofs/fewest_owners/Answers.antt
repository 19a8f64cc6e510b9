use mathlib.Core.Path.{sym, ap, ◌∙◌}
use native.Mathlib.Omega.{arith}
use lib.Seq.{length-take-le}
use Rattle.host_calls.specs.Calls.{encoded}
use Rattle.host_ring.specs.Ring.{RingCall}
use Rattle.host_ring.proofs.Rings.{fewest_tellable, fewest_told}
use Rattle.host_ring.proofs.fewest_owners.Goals as goal

pub slice_bounds-fewest_of-end : goal.slice_bounds-fewest_of-end
slice_bounds-fewest_of-end c = sym (length-take-le c.stakes_of-n.result c.stakes_of-n.new.stakes
    (omega (arith, c.stakes_of-n.auto.stakes, c.stakes_of-n.ensures.0)))

pub tell-requires : goal.tell-requires
tell-requires c = rw c.fewest_of-answer.ensures (fewest_tellable _ _ _ _)

pub returns : goal.returns
returns c =
    let a = c.args in
    let e =
    fewest_told a.stakes.now a.voters_low a.voters_high a.reachable_low a.reachable_high a.found.now _ _
    c.stakes_of-n.ensures.1 c.fewest_of-answer.ensures in record {
      value = c.tell.ensures.0 ∙ sym (ap (λ (x : RingCall). encoded x.answer) e);
      found_after = c.tell.ensures.1 ∙ sym
          (ap (λ (x : RingCall). x.found) e);
    }
