use mathlib.Core.Path.{sym}
use lib.ListN.{take}
use native.Mathlib.Omega.{arith}
use Rattle.std.proofs.lemmas.Result.{err_from_is_err_and}
use Rattle.stakes_file.specs.Answers.{stakes_in}
use Rattle.stakes_file.proofs.Loaded.{committee_taken, committee_broken}
use Rattle.listing_input.proofs.checked_members.Goals as goal

pub returns-in_err-new_committee : goal.returns-in_err-new_committee
unfolding stakes_in
returns-in_err-new_committee c =
    let p = err_from_is_err_and c.from_residual.result c.from_residual.ensures.1 in
    let e = sym (committee_broken (take c.args.n c.args.stakes.now) c.in_err-new_committee.field-0.0 c.in_err-new_committee.ensures) in
    rw (p.1, p.2) (omega arith, e)

pub returns : goal.returns
unfolding stakes_in
returns c = (omega arith, sym (committee_taken (take c.args.n c.args.stakes.now) _ c.in_ok-new_committee.ensures))
