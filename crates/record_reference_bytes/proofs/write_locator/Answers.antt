use mathlib.Core.Path.{◌∙◌}
use Rattle.record_reference_bytes.proofs.Written.{locator_written}
use Rattle.record_reference_bytes.proofs.write_locator.Goals as goal

pub returns : goal.returns
returns c =
    let start = c.args in
    c.write_u64.ensures ∙ rw c.write_reference.ensures
    (locator_written start.locator start.s.now start.at)
