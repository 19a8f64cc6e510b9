use mathlib.Core.Path.{refl}
use native.Mathlib.Omega.{arith}
use Rattle.record_statement.specs.Values.{as_statement}
use Rattle.record_statement.specs.Step.{payload_between, Took}
use Rattle.record_statement.proofs.Steps.{accept_cut, accept_reads}
use Rattle.record_statement.proofs.take_accept.Goals as goal

pub returns-then-s-at-lt57 : goal.returns-then-s-at-lt57
unfolding Took
returns-then-s-at-lt57 c =
    let o = c in
    let s = o.args.s.now in
    let p = o.args.at in
    accept_cut s p o.requires.0 o.requires.1 (omega arith)

pub returns : goal.returns
unfolding Took as_statement payload_between
returns c =
    let o = c in
    let s = o.args.s.now in
    let p = o.args.at in
    (rw c.read_locator-locator.ensures (accept_reads s p o.requires.0 o.requires.1 (omega arith)), (omega arith, refl))
