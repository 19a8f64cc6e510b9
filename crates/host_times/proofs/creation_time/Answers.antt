use Rattle.host_times.specs.Times.{creation_time_call}
use native.Mathlib.Omega.{arith}
use lib.Seq.{length-take-le}
use mathlib.Core.Path.{sym}
use Rattle.host_times.proofs.creation_time.Goals as goal

pub slice_bounds-time_of-end : goal.slice_bounds-time_of-end
slice_bounds-time_of-end c = sym (length-take-le c.stakes_of-n.result c.stakes_of-n.new.stakes
    (omega (arith, c.stakes_of-n.auto.stakes, c.stakes_of-n.ensures.0)))

pub returns : goal.returns
unfolding creation_time_call
returns c =
    let stakes = c.stakes_of-n.ensures.1 in
    record { value = rw (← stakes) c.time_of.ensures.0; found_after = rw (← stakes) c.time_of.ensures.1 }
