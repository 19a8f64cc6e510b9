use Rattle.record_reference_bytes.proofs.Written.{high_two}
use lib.ListN.{length-set}
use native.Mathlib.Omega.{arith}
use borrow.Author.Rules.{rules}
use Rattle.record_reference_bytes.proofs.write_high_u16.Goals as goal

pub bounds-s-at-2 : goal.bounds-s-at-2
bounds-s-at-2 c = simp length-set (omega arith)

pub returns : goal.returns
returns c = high_two c.args.v c.args.s.now c.args.at (search rules)
