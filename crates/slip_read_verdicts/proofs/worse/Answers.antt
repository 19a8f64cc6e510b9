use borrow.Author.Tests.{lt-ltb, le-ltb}
use native.Mathlib.Omega.{arith}
use Rattle.slip_read_verdicts.specs.Verdict.{worse}
use Rattle.slip_read_verdicts.proofs.worse.Goals as goal

pub returns-then-a-b : goal.returns-then-a-b
unfolding worse
returns-then-a-b c = rw (lt-ltb c.args.a c.args.b (omega arith))

pub returns : goal.returns
unfolding worse
returns c = rw (le-ltb c.args.a c.args.b (omega arith))
