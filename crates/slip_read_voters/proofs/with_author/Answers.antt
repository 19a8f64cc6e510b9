use borrow.Author.Tests.{lt-ltb, le-ltb}
use native.Mathlib.Omega.{arith}
use Rattle.slip_read_voters.proofs.with_author.Goals as goal

pub returns-then-author-lt128 : goal.returns-then-author-lt128
returns-then-author-lt128 c = rw (lt-ltb c.args.author 128 (omega arith)) c.insert.ensures

pub returns : goal.returns
returns c = rw (le-ltb c.args.author 128 (omega arith))
