use mathlib.Core.Path.{◌∙◌}
use Prim.Native.Nat.{◌+◌}
use borrow.Author.Tests.{eq-eqb, ne_eqb}
use Rattle.record_check_includes.proofs.with_include.Goals as goal

pub returns-then-include-round : goal.returns-then-include-round
returns-then-include-round c =
    let o = c in
    rw (ne_eqb (o.args.include.round.0 + 1) o.args.round.0 c.if-include-round.true)

pub returns : goal.returns
returns c =
    let e = c in
    let o = e in
    c.insert.ensures ∙ rw (eq-eqb (o.args.include.round.0 + 1) o.args.round.0 e.if-include-round.false)
