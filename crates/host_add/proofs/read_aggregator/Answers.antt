use Rattle.host_add.specs.Add.{aggregator_of}
use Rattle.host_add.proofs.read_aggregator.Goals as goal

pub returns : goal.returns
unfolding aggregator_of
returns c = rw (c.read_u64-low.ensures, c.read_u64-high.ensures, c.read_u64.ensures)
