use mathlib.Core.Path.{refl}
use native.Mathlib.Omega.{arith}
use Rattle.base.proofs.Tests.{not_both}
use Rattle.index_alike.specs.Alike.{ended, there}
use Rattle.index_alike.proofs.has_run.Goals as goal

pub returns-then-left-eq0 : goal.returns-then-left-eq0
returns-then-left-eq0 c = λ t. ended (omega (arith, c.if-left-eq0.true))

pub returns-then-left-k : goal.returns-then-left-k
returns-then-left-k c = λ t. absurd (not_both t refl)

pub returns : goal.returns
returns c = λ t. there (omega (arith, c.if-left-k.false)) (c.same_run.ensures t)
