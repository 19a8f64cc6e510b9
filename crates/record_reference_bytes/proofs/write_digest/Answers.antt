use Rattle.record_reference_bytes.proofs.Written.{high_four}
use mathlib.Core.Path.{◌∙◌}
use Rattle.record_reference_bytes.proofs.write_digest.Goals as goal

pub returns : goal.returns
returns c = c.write_high_u64-4.ensures ∙ rw (
  c.write_high_u64-3.ensures,
  c.write_high_u64-2.ensures,
  c.write_high_u64.ensures,
) (high_four c.args.digest c.args.s.now c.args.at)
