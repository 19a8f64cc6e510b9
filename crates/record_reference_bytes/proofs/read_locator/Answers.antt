use Rattle.types.specs.Values.{as_locator}
use Rattle.record_reference_bytes.specs.Step.{locator_at}
use Rattle.record_reference_bytes.proofs.read_locator.Goals as goal

pub returns : goal.returns
unfolding as_locator locator_at
returns c = rw (c.read_reference-block.ensures, c.read_u64-offset.ensures)
