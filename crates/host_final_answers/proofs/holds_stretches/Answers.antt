use native.Mathlib.Omega.{arith}
use borrow.Author.Tests.{le-leb, lt-leb}
use lib.ListN.{length}
use Rattle.host_final_answers.specs.Answers.{whole_stretches}
use Rattle.host_final_answers.proofs.holds_stretches.Goals as goal

pub returns-then-bytes-lt-STRETCH_BYTES : goal.returns-then-bytes-lt-STRETCH_BYTES
unfolding whole_stretches
returns-then-bytes-lt-STRETCH_BYTES c = rw (lt-leb 80 (length c.args.bytes.now) c.if-bytes-lt-STRETCH_BYTES.true)

pub returns : goal.returns
unfolding whole_stretches
returns c = rw (le-leb 80 (length c.args.bytes.now) (omega (arith, c.if-bytes-lt-STRETCH_BYTES.false)))
