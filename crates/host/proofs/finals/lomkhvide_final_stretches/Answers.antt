use Rattle.final_readings_spec.specs.Answers.{as_reading}
use Rattle.list_readings_spec.specs.Answers.{is_ordinary}
use Rattle.host_finals.specs.Stretches.{stretches_call}
use native.Mathlib.Omega.{arith}
use lib.Seq.{length-take-le}
use Rattle.final_spec.specs.Voters.{certifies, certifiers, is_final}
use Rattle.final_readings_spec.specs.Readings.{voters_in, certifies_in, certifiers_in, is_final_in}
use Rattle.list_readings_spec.specs.Lists.{is_listed, least_listed, list_edges, listing}
use Rattle.list_ordinary_spec.specs.FinalShares.{is_final_share, least_final_share}
use mathlib.Core.Path.{sym}
use Rattle.host.proofs.finals.lomkhvide_final_stretches.Goals as goal

pub slice_bounds-stretches_of-end : goal.slice_bounds-stretches_of-end
slice_bounds-stretches_of-end c = sym (length-take-le c.stakes_of-n.result c.stakes_of-n.new.stakes
    (omega (arith, c.stakes_of-n.auto.stakes, c.stakes_of-n.ensures.0)))

pub returns : goal.returns
unfolding stretches_call is_ordinary as_reading listing is_listed least_listed list_edges is_final_in certifiers_in certifies_in voters_in is_final certifiers
    certifies is_final_share least_final_share
returns c = record {
  value = rw (← c.stakes_of-n.ensures.1) c.stretches_of.ensures.0;
  out_after = rw
      (← c.stakes_of-n.ensures.1) c.stretches_of.ensures.1;
}
