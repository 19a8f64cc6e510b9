use mathlib.Core.Path.{sym}
use native.Mathlib.Omega.{arith}
use Rattle.base.proofs.Le.{le_at_add}
use Rattle.base.proofs.read_u32.Goals as goal

pub returns : goal.returns
returns c = rw (c.read_u16.ensures, c.read_u16-2.ensures) (sym (le_at_add 2 2 _ _ (omega arith)))
