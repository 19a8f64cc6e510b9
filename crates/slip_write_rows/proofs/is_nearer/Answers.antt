use Prim.Native.Nat.{◌+◌, ◌-◌, ◌<◌}
use native.Mathlib.Omega.{arith}
use borrow.Author.Tests.{eq-eqb, ne_eqb}
use Rattle.base.proofs.Loops.{ltb_same}
use Rattle.slip_write_rows.specs.Rows.{is_nearer}
use Rattle.slip_write_rows.proofs.is_nearer.Goals as goal

pub returns-then-found-eq0 : goal.returns-then-found-eq0
unfolding is_nearer
returns-then-found-eq0 c = rw (eq-eqb c.args.found 0 c.if-found-eq0.true)

pub returns-then-held-eq0 : goal.returns-then-held-eq0
unfolding is_nearer
returns-then-held-eq0 c = rw (ne_eqb c.args.found 0 c.if-found-eq0.false, eq-eqb c.args.held 0 c.if-held-eq0.true)

pub returns : goal.returns
unfolding is_nearer
returns c = let a = c.args in
    rw (ne_eqb a.found 0 c.if-found-eq0.false, ne_eqb a.held 0 c.if-held-eq0.false)
    (ltb_same a.found (a.held - 1) (a.found + 1) a.held (λ (h : a.found < a.held - 1). omega arith) (λ (h : a.found + 1 < a.held). omega arith))
