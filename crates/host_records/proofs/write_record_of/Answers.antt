use mathlib.Core.Path.{◌∙◌}
use mathlib.Core.Option.{none}
use Rattle.draft_spec.specs.Writing.{write_record}
use Rattle.host_records.proofs.Refused.{told_length, told_refusal}
use Rattle.host_records.proofs.write_record_of.Goals as goal

pub returns-in-Ok : goal.returns-in-Ok
unfolding write_record
returns-in-Ok c =
    let w = c.write_record in
    record { value = told_length none _ _ w.result w.ensures.result_value c.in-Ok.length c.in-Ok.is; out_after = w.ensures.out_after }

pub returns-in-Err : goal.returns-in-Err
unfolding write_record
returns-in-Err c =
    let w = c.write_record in
    record { value = c.refused.ensures ∙ told_refusal none _ _ w.result w.ensures.result_value c.in-Err.refusal c.in-Err.is; out_after = w.ensures.out_after }
