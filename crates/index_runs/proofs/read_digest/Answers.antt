use Rattle.types.specs.Values.{digest_bytes}
use Rattle.index_spec.specs.Walk.{digest_of}
use Rattle.index_runs.specs.Values.{digest_at}
use Rattle.index_runs.proofs.read_digest.Goals as goal

pub returns : goal.returns
unfolding digest_bytes digest_at digest_of
returns c = rw (
  c.turned-first.ensures,
  c.turned-second.ensures,
  c.turned-third.ensures,
  c.turned-fourth.ensures,
)
