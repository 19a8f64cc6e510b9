use Rattle.host_calls.specs.Calls.{flag}
use Rattle.host_calls.proofs.flag.Goals as goal

pub returns-then-test : goal.returns-then-test
unfolding flag
returns-then-test c = rw c.if-test.true

pub returns : goal.returns
unfolding flag
returns c = rw c.if-test.false
