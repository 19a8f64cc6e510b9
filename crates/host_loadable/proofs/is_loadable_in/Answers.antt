use Rattle.std.specs.Prelude.{Ok}
use Rattle.final_readings_spec.specs.Answers.{as_reading}
use mathlib.Core.Path.{sym, ap, ◌∙◌}
use native.Mathlib.Omega.{arith}
use lib.Seq.{length-take-le}
use Rattle.host_loadable.proofs.Told.{told_yes, told_no, told_refusal}
use Rattle.host_loadable.proofs.is_loadable_in.Goals as goal

pub slice_bounds-is_loadable_of-end : goal.slice_bounds-is_loadable_of-end
slice_bounds-is_loadable_of-end c =
    let w = c.stakes_of-n in
    sym (length-take-le w.result w.new.stakes (omega (arith, w.auto.stakes, w.ensures.0)))

pub returns-in-Ok-true : goal.returns-in-Ok-true
returns-in-Ok-true c =
    let a = c.args in
    let w = c.is_loadable_of in
    told_yes (as_reading a.reading) a.stakes.now a.store.now a.locator.now _ c.stakes_of-n.ensures.1
    w.result w.ensures (c.in-Ok-true.is ∙ ap Ok c.in-Ok-true.field-0-test)

pub returns-in-Ok-false : goal.returns-in-Ok-false
returns-in-Ok-false c =
    let a = c.args in
    let w = c.is_loadable_of in
    told_no (as_reading a.reading) a.stakes.now a.store.now a.locator.now _ c.stakes_of-n.ensures.1
    w.result w.ensures (c.in-Ok-false.is ∙ ap Ok c.in-Ok-false.field-0-test)

pub returns-in-Err : goal.returns-in-Err
returns-in-Err c =
    let a = c.args in
    let w = c.is_loadable_of in
    c.refused.ensures ∙ told_refusal (as_reading a.reading) a.stakes.now a.store.now a.locator.now _
    c.stakes_of-n.ensures.1 w.result w.ensures c.in-Err.refusal
    c.in-Err.is
