use mathlib.Core.Path.{sym, ◌∙◌}
use lib.Seq.{length-take-le}
use native.Mathlib.Omega.{arith}
use Rattle.host_slips.proofs.Told.{told_number, told_refusal}
use Rattle.host_slips.proofs.read_slip.Goals as goal

pub slice_bounds-read_slip-end : goal.slice_bounds-read_slip-end
slice_bounds-read_slip-end c = sym (length-take-le c.stakes_of-n.result c.stakes_of-n.new.stakes
    (omega (arith, c.stakes_of-n.auto.stakes, c.stakes_of-n.ensures.0)))

pub returns-in-Ok : goal.returns-in-Ok
returns-in-Ok c = rw (← c.stakes_of-n.ensures.1)
    (told_number _ _ _ c.read_slip.result c.read_slip.ensures c.in-Ok.count
    c.in-Ok.is)

pub returns-in-Err : goal.returns-in-Err
returns-in-Err c = c.refused.ensures ∙ rw (← c.stakes_of-n.ensures.1)
    (told_refusal _ _ _ c.read_slip.result c.read_slip.ensures c.in-Err.refusal
    c.in-Err.is)
