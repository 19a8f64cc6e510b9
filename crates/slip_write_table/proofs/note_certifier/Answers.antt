use mathlib.Core.Path.{refl}
use native.Mathlib.Omega.{arith}
use lib.ListN.{length-set}
use Rattle.slip_write_table.specs.Table.{noted}
use Rattle.slip_write_table.proofs.note_certifier.Goals as goal

pub bounds-certifiers-at-2 : goal.bounds-certifiers-at-2
bounds-certifiers-at-2 c = simp length-set (omega arith)

pub bounds-certifiers-at-3 : goal.bounds-certifiers-at-3
bounds-certifiers-at-3 c = simp length-set (omega arith)

pub returns : goal.returns
unfolding noted
returns c = refl
