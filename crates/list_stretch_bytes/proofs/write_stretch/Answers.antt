use mathlib.Core.Path.{◌∙◌}
use Rattle.list_stretch_bytes.proofs.Stretch.{stretch_written}
use Rattle.list_stretch_bytes.proofs.write_stretch.Goals as goal

pub returns : goal.returns
returns c =
    let a = c.args in
    c.write_u64-3.ensures
    ∙ rw (
      c.write_u64-2.ensures,
      c.write_u64.ensures,
      c.write_locator.ensures,
    )
    (stretch_written a.out.now _ a.locator a.end a.blocks a.stake.0)
