use mathlib.Core.Path.{◌∙◌}
use native.Mathlib.Omega.{arith}
use lib.ListN.{length}
use Rattle.base.proofs.Le.{bytes_of}
use Rattle.record_spec.specs.Reference.{locator}
use Rattle.types.specs.Values.{as_locator}
use Rattle.record_statement.specs.Values.{as_statement}
use Rattle.record_statement.specs.declared.BaseStatement.TheVariants.{Accept}
use Rattle.std.specs.Prelude.{Some}
use Rattle.draft_joined.specs.Step.{TookGiven, TookJoined}
use Rattle.draft_joined.proofs.Given.{inside_none}
use Rattle.draft_joined.proofs.Runs.{joined_none, joined_there, joined_accept, no_accept}
use Rattle.draft_joined.proofs.next_joined.Goals as goal

pub returns-in_err-statement : goal.returns-in_err-statement
unfolding TookGiven TookJoined
returns-in_err-statement c = rw c.from_residual.ensures (joined_none c.args.s.now c.args.at c.requires c.in_err-statement.ensures)

pub returns-in_default : goal.returns-in_default
returns-in_default c =
    let o = c in
    let s = o.args.s.now in
    let st = c.in_ok-statement.statement in
    let next = c.in_ok-statement.next in
    let told : TookGiven s o.args.at (Some (st, next)) = c.in_ok-statement.ensures in
    joined_there s o.args.at st next (bytes_of s (λ j h. omega (arith, c.shared_slice_known-1.given j))) told
    (no_accept s st c.in_default.not-Accept)

pub run_of-run-requires : goal.run_of-run-requires
unfolding TookGiven
run_of-run-requires c =
    let o = c in
    let s = o.args.s.now in
    let st = c.in_ok-statement.statement in
    let next = c.in_ok-statement.next in
    let told : TookGiven s o.args.at (Some (st, next)) = c.in_ok-statement.ensures in
    told.1.1.0

pub run_statement-requires : goal.run_statement-requires
unfolding as_locator locator
run_statement-requires c = c.run_of-run.ensures.right

pub returns : goal.returns
unfolding TookGiven TookJoined as_statement as_locator locator
returns c =
    let o = c in
    let s = o.args.s.now in
    let st = c.in_ok-statement.statement in
    let next = c.in_ok-statement.next in
    let first = c.in-Accept.first in
    let told : TookGiven s o.args.at (Some (Accept first, next)) = rw c.in-Accept.is at c.in_ok-statement.ensures in
    let r = c.run_of-run.ensures in (
      joined_accept s o.args.at (bytes_of s (λ j h. omega (
        arith,
        c.shared_slice_known-1.given j,
      ))) next (as_locator first) told.0 ∙ rw (c.run_statement.ensures.0 s) r.says,
      (omega (arith, told.1.0, r.onward), (r.inside, inside_none (length s) c.run_statement.result c.run_statement.ensures.1)),
    )
