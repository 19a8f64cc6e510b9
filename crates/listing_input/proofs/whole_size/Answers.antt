use native.Mathlib.Omega.{arith}
use borrow.Author.Tests.{lt-ltb, le-ltb}
use Rattle.listing_input.specs.Input.{whole_size}
use Rattle.listing_input.proofs.whole_size.Goals as goal

pub returns-then-got-n : goal.returns-then-got-n
unfolding whole_size
returns-then-got-n c = rw (lt-ltb c.args.got c.args.n (omega arith))

pub returns : goal.returns
unfolding whole_size
returns c = rw (le-ltb c.args.got c.args.n (omega arith))
