use native.Mathlib.Omega.{arith}
use Rattle.base.proofs.Le.{bytes_of}
use Rattle.draft_joined.specs.Step.{TookGiven}
use Rattle.draft_joined.proofs.Given.{given_none, took_given}
use Rattle.draft_joined.proofs.take_given.Goals as goal

pub returns-then-s-at : goal.returns-then-s-at
unfolding TookGiven
returns-then-s-at c =
    let o = c in
    given_none o.args.s.now o.args.at (omega arith)

pub returns : goal.returns
returns c =
    let o = c in
    let s = o.args.s.now in
    took_given s o.args.at c.take_statement.result (bytes_of s (λ j h. omega (arith, c.shared_slice_known-2-1.given j))) (omega arith)
    c.if-s-at-eq0.false c.take_statement.ensures
