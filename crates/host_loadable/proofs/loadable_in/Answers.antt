use Rattle.final_readings_spec.specs.Answers.{as_reading}
use mathlib.Core.Path.{sym, ap, ◌∙◌}
use native.Mathlib.Omega.{arith}
use lib.Seq.{length-take-le}
use Rattle.load_spec.specs.Question.{AskedList}
use Rattle.host_loadable.proofs.Told.{list_same, told_number, told_denied}
use Rattle.host_loadable.proofs.loadable_in.Goals as goal

pub slice_bounds-loadable_in-end : goal.slice_bounds-loadable_in-end
slice_bounds-loadable_in-end c =
    let w = c.stakes_of-n in
    sym (length-take-le w.result w.new.stakes (omega (arith, w.auto.stakes, w.ensures.0)))

pub returns-in-Ok : goal.returns-in-Ok
returns-in-Ok c =
    let a = c.args in
    let w = c.loadable_in in
    let e = list_same (as_reading a.reading) a.stakes.now a.store.now a.places.now _
    c.stakes_of-n.ensures.1 in record {
      value = told_number (as_reading a.reading) a.stakes.now a.store.now a.places.now w.result (w.ensures.result_value ∙ ap (λ (x : AskedList). x.answer) e)
          c.in-Ok.count c.in-Ok.is;
      places_after = w.ensures.places_after ∙ ap (λ (x : AskedList). x.places) e;
    }

pub returns-in-Err : goal.returns-in-Err
returns-in-Err c =
    let a = c.args in
    let w = c.loadable_in in
    let e = list_same (as_reading a.reading) a.stakes.now a.store.now a.places.now _
    c.stakes_of-n.ensures.1 in record {
      value = c.refused.ensures ∙ told_denied (as_reading a.reading) a.stakes.now a.store.now a.places.now w.result
          (w.ensures.result_value ∙ ap (λ (x : AskedList). x.answer) e)
          c.in-Err.refusal c.in-Err.is;
      places_after = w.ensures.places_after ∙ ap (λ (x : AskedList). x.places) e;
    }
