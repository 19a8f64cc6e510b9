use mathlib.Core.Path.{◌∙◌}
use Rattle.base.proofs.Le.{le_bytes_mod, written_add}
use Rattle.base.proofs.write_u32.Goals as goal

pub returns : goal.returns
returns c =
    let start = c.args in
    let l = start.s.now in
    c.write_u16-2.ensures
    ∙ rw (c.write_u16.ensures, le_bytes_mod 2 start.v) (written_add 2 2 start.v l start.at)
