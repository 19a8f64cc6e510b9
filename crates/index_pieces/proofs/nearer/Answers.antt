use borrow.Author.Tests.{lt-ltb, le-ltb}
use Rattle.index_pieces.specs.Pieces.{nearer}
use native.Mathlib.Omega.{arith}
use Rattle.index_pieces.proofs.nearer.Goals as goal

pub returns-then-a-b : goal.returns-then-a-b
unfolding nearer
returns-then-a-b c = rw (lt-ltb c.args.a c.args.b c.if-a-b.true)

pub returns : goal.returns
unfolding nearer
returns c = rw (le-ltb c.args.a c.args.b (omega (arith, c.if-a-b.false)))
