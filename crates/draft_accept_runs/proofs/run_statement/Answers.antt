use mathlib.Core.Path.{refl, sym}
use native.Mathlib.Omega.{arith}
use Rattle.types.specs.Values.{as_reference, as_locator}
use Rattle.record_statement.specs.Values.{as_statement}
use Rattle.draft_accept_runs.specs.Step.{payload_inside}
use Rattle.draft_accept_runs.proofs.Accepts.{run_alone, run_longer, run_low}
use Rattle.draft_accept_runs.proofs.run_statement.Goals as goal

pub returns-then-first-last : goal.returns-then-first-last
unfolding as_statement as_locator payload_inside
returns-then-first-last c =
    let a = c.args in
    ((λ s. sym (run_alone (as_reference a.block) a.first a.last c.if-first-last.true)), refl)

pub overflow_add-last : goal.overflow_add-last
overflow_add-last c =
    let o = c in
    omega (arith, run_low (as_reference o.args.block) o.args.first o.args.last c.if-first-last.false o.requires)

pub returns : goal.returns
unfolding as_statement payload_inside
returns c =
    let a = c.args in
    ((λ s. rw c.new.ensures (sym (run_longer (as_reference a.block) a.first a.last c.if-first-last.false))), refl)
