use mathlib.Core.Path.{sym, ap, ◌∙◌}
use Rattle.std.proofs.lemmas.Result.{err_from_is_err_and}
use Rattle.committee.specs.Answers.{as_new_committee}
use Rattle.stakes_file.specs.Load.{loaded_into}
use Rattle.stakes_file.specs.Answers.{as_load}
use Rattle.stakes_file.proofs.Loaded.{committee_taken, committee_broken}
use Rattle.stakes_file.proofs.put_committee.Goals as goal

pub returns-in_err-new_committee : goal.returns-in_err-new_committee
unfolding as_load loaded_into
returns-in_err-new_committee c =
    let start = c.args in
    let p = err_from_is_err_and c.from_residual.result c.from_residual.ensures.1 in
    let e = committee_broken start.members.now c.in_err-new_committee.field-0.0
    (ap as_new_committee (sym c.in_err-new_committee.was) ∙ c.new_committee.ensures) in
    record { result_value = rw (p.1, p.2, e); stakes_after = rw e }

pub returns : goal.returns
returns c =
    let start = c.args in
    let set = c in
    let e = committee_taken start.members.now c.in_ok-new_committee.field-0
    (ap as_new_committee (sym c.in_ok-new_committee.was) ∙ set.new_committee.ensures) in
    record { result_value = c.put_in_front.ensures.result_value ∙ (rw e); stakes_after = c.put_in_front.ensures.stakes_after ∙ (rw e) }
