use native.Mathlib.Omega.{arith}
use Rattle.record_statement.specs.Step.{Took}
use Rattle.record_statement.proofs.Steps.{statement_none, kind_none}
use Rattle.record_statement.proofs.take_statement.Goals as goal

pub returns-then-s-at : goal.returns-then-s-at
unfolding Took
returns-then-s-at c =
    let o = c in
    let s = o.args.s.now in
    let p = o.args.at in
    statement_none s p (omega arith)

pub returns : goal.returns
unfolding Took
returns c =
    let o = c in
    let s = o.args.s.now in
    let p = o.args.at in
    kind_none s p (omega arith) c.if-kind-eq0.false c.if-kind-eq1.false c.if-kind-eq2.false c.if-kind-eq3.false
