use mathlib.Core.Path.{sym, ◌∙◌}
use lib.ListN.{drop}
use Rattle.base.proofs.Read.{part}
use Rattle.record_statement.specs.Values.{as_statement}
use Rattle.record_statement.specs.Step.{Took}
use Rattle.std.specs.Prelude.{Some, None}
use Rattle.record_statement.proofs.Only.{only_on, only_stop, only_done}
use Rattle.record_statement.proofs.statements_only.Goals as goal

pub returns-in_default : goal.returns-in_default
unfolding Took
returns-in_default c =
    let l = c in
    let s = l.args.s.now in
    let told : Took s l.loop-left.at None = rw c.in_default.is at c.take_statement.ensures in
    sym (l.loop-left.invariant.1 ∙ only_stop l.loop-left.left (drop l.loop-left.at s) c.loop-left-test.true told)

pub loop-left-preserved : goal.loop-left-preserved
unfolding Took
loop-left-preserved c =
    let l = c in
    let s = l.args.s.now in
    let st = c.in-Some.field-0-0 in
    let next = c.in-Some.next in
    let told : Took s l.loop-left.at (Some (st, next)) = rw c.in-Some.is at c.take_statement.ensures in (
      told.1.0,
      l.loop-left.invariant.1 ∙ only_on l.loop-left.left (drop l.loop-left.at s) (part (as_statement s st) (drop next s))
          c.loop-left-test.true told.0,
    )

pub returns : goal.returns
returns c =
    let l = c in
    let s = l.args.s.now in
    sym (l.loop-left.invariant.1 ∙ only_done l.loop-left.left s l.loop-left.at c.loop-left-test.false l.loop-left.invariant.0)
