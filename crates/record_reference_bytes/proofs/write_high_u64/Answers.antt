use Rattle.record_reference_bytes.proofs.Written.{high_double}
use mathlib.Core.Path.{◌∙◌}
use Rattle.record_reference_bytes.proofs.write_high_u64.Goals as goal

pub returns : goal.returns
returns c = c.write_high_u32-2.ensures ∙ rw c.write_high_u32.ensures
    (high_double 4 c.args.v
    c.args.s.now
    c.args.at)
