use mathlib.Core.Path.{sym, ap, ◌∙◌}
use native.Mathlib.Omega.{arith}
use lib.Seq.{length-take-le}
use Rattle.final_readings_spec.specs.Answers.{as_reading}
use Rattle.slip_spec.specs.Writing.{Written}
use Rattle.host_slip_writer.proofs.Told.{call_same, told_length, told_refusal}
use Rattle.host_slip_writer.proofs.write_slip.Goals as goal

pub slice_bounds-write_slip_of-end : goal.slice_bounds-write_slip_of-end
slice_bounds-write_slip_of-end c = let w = c.stakes_of-n in
    sym (length-take-le w.result w.new.stakes (omega (arith, w.auto.stakes, w.ensures.0)))

pub returns-in-Ok : goal.returns-in-Ok
returns-in-Ok c = let a = c.args in
    let w = c.write_slip_of in
    let e = call_same (as_reading a.reading) a.stakes.now a.store.now a.locator.now a.out.now _
    c.stakes_of-n.ensures.1 in record {
      value = told_length (as_reading a.reading) a.stakes.now a.store.now a.locator.now a.out.now w.result
          (w.ensures.result_value ∙ ap (λ (x : Written). x.answer) e) c.in-Ok.length c.in-Ok.is;
      out_after = w.ensures.out_after ∙ ap
          (λ (x : Written). x.out) e;
    }

pub returns-in-Err : goal.returns-in-Err
returns-in-Err c = let a = c.args in
    let w = c.write_slip_of in
    let e = call_same (as_reading a.reading) a.stakes.now a.store.now a.locator.now a.out.now _
    c.stakes_of-n.ensures.1 in record {
      value = c.refused.ensures ∙ told_refusal (as_reading a.reading) a.stakes.now a.store.now a.locator.now a.out.now w.result
          (w.ensures.result_value ∙ ap (λ (x : Written). x.answer) e) c.in-Err.refusal c.in-Err.is;
      out_after = w.ensures.out_after ∙ ap
          (λ (x : Written). x.out) e;
    }
