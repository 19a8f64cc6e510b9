use Rattle.types.specs.Values.{as_reference}
use Rattle.record_reference_bytes.specs.Step.{reference_at}
use Rattle.record_reference_bytes.proofs.read_reference.Goals as goal

pub returns : goal.returns
unfolding as_reference reference_at
returns c = rw (c.read_u64.ensures, c.read_u64-2.ensures, c.read_digest-digest.ensures)
