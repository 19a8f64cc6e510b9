use Rattle.final_readings_spec.specs.Answers.{as_reading}
use Rattle.list_readings_spec.specs.Answers.{is_ordinary}
use Rattle.host_finals.specs.NextFinal.{next_wide_withdrawing_call}
use native.Mathlib.Omega.{arith}
use lib.Seq.{length-take-le}
use mathlib.Core.Path.{sym}
use Rattle.host.proofs.finals.lomkhvide_next_wide_withdrawing.Goals as goal

pub slice_bounds-next_final_of-end : goal.slice_bounds-next_final_of-end
slice_bounds-next_final_of-end c = sym (length-take-le c.stakes_of-n.result c.stakes_of-n.new.stakes
    (omega (arith, c.stakes_of-n.auto.stakes, c.stakes_of-n.ensures.0)))

pub returns : goal.returns
unfolding next_wide_withdrawing_call is_ordinary as_reading
returns c = record {
  value = rw (← c.stakes_of-n.ensures.1) c.next_final_of.ensures.0;
  found_after = rw
      (← c.stakes_of-n.ensures.1) c.next_final_of.ensures.1;
}
