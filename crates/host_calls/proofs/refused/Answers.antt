use Rattle.host_calls.specs.Calls.{encoded}
use Rattle.host_calls.proofs.refused.Goals as goal

pub returns : goal.returns
unfolding encoded
returns c = rw c.number.ensures
