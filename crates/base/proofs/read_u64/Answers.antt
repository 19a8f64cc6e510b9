use mathlib.Core.Path.{sym}
use native.Mathlib.Omega.{arith}
use Rattle.base.proofs.Le.{le_at_add}
use Rattle.base.proofs.read_u64.Goals as goal

pub returns : goal.returns
returns c = rw (c.read_u32.ensures, c.read_u32-2.ensures) (sym (le_at_add 4 4 _ _ (omega arith)))
