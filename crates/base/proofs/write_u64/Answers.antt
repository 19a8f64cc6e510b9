use mathlib.Core.Path.{◌∙◌}
use Rattle.base.proofs.Le.{le_bytes_mod, written_add}
use Rattle.base.proofs.write_u64.Goals as goal

pub returns : goal.returns
returns c =
    let start = c.args in
    let l = start.s.now in
    c.write_u32-2.ensures
    ∙ rw (c.write_u32.ensures, le_bytes_mod 4 start.v) (written_add 4 4 start.v l start.at)
