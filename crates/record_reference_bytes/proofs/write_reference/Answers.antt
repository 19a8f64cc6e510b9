use mathlib.Core.Path.{◌∙◌}
use Rattle.types.specs.Values.{as_reference}
use Rattle.record_reference_bytes.proofs.Written.{reference_written}
use Rattle.record_reference_bytes.proofs.write_reference.Goals as goal

pub returns : goal.returns
unfolding as_reference
returns c =
    let start = c.args in
    c.write_digest.ensures
    ∙ rw (
      c.write_u64-2.ensures,
      c.write_u64.ensures,
    )
    (reference_written (as_reference start.block) start.s.now start.at)
