use Rattle.index_cursors.proofs.Moving.{at_none, at_some}
use native.Mathlib.Omega.{arith}
use Rattle.index_cursors.proofs.moved_at.Goals as goal

pub returns-then-left-eq0 : goal.returns-then-left-eq0
returns-then-left-eq0 c = at_none _ _ _ (omega (arith, c.if-left-eq0.true))

pub overflow_mul-result : goal.overflow_mul-result
overflow_mul-result c = omega (arith, c.if-left-eq0.false, c.requires.0 (omega (arith, c.if-left-eq0.false)))

pub overflow_add-result : goal.overflow_add-result
overflow_add-result c = omega (arith, c.if-left-eq0.false, c.requires.0 (omega (arith, c.if-left-eq0.false)))

pub returns : goal.returns
returns c = at_some _ _ _ (omega (arith, c.if-left-eq0.false))
