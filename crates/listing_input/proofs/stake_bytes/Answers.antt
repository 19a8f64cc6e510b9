use native.Mathlib.Omega.{arith}
use borrow.Author.Tests.{eq-eqb, ne_eqb}
use Rattle.listing_input.specs.Input.{stake_bytes}
use Rattle.listing_input.proofs.stake_bytes.Goals as goal

pub returns-then-count-eq255 : goal.returns-then-count-eq255
unfolding stake_bytes
returns-then-count-eq255 c = (rw (eq-eqb c.args.count 255 c.if-count-eq255.true), omega arith)

pub returns : goal.returns
unfolding stake_bytes
returns c = (rw (ne_eqb c.args.count 255 c.if-count-eq255.false), omega arith)
