use native.Mathlib.Omega.{arith}
use Rattle.slip_read_voters.specs.Step.{TookVoter}
use Rattle.slip_read_voters.proofs.Taking.{voter_short, voter_cut, voter_reads}
use Rattle.slip_read_voters.proofs.take_voter.Goals as goal

pub returns-then-slip-at-lt10 : goal.returns-then-slip-at-lt10
unfolding TookVoter
returns-then-slip-at-lt10 c = voter_short c.args.slip.now c.args.at (omega arith)

pub returns-then-slip-from : goal.returns-then-slip-from
unfolding TookVoter
returns-then-slip-from c = voter_cut c.args.slip.now c.args.at (omega arith)
    (omega (arith, c.read_u16-n.ensures))

pub returns : goal.returns
unfolding TookVoter
returns c = (
  voter_reads c.args.slip.now c.args.at
      c.read_u64-author.result c.read_u16-n.result c.read_u64-author.ensures c.read_u16-n.ensures (omega arith),
  (omega arith, omega arith),
)
