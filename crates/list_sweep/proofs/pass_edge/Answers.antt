use mathlib.Core.Path.{refl}
use native.Mathlib.Omega.{arith}
use Rattle.list_row_sort.specs.Rows.{row_at}
use Rattle.list_sweep.proofs.pass_edge.Goals as goal

pub offset_bounds-marks-lane : goal.offset_bounds-marks-lane
unfolding row_at
offset_bounds-marks-lane c = omega (arith, c.requires.1, c.well_formed)

pub bounds-marks-lane : goal.bounds-marks-lane
unfolding row_at
bounds-marks-lane c = c.requires.1

pub returns : goal.returns
unfolding row_at
returns c = refl
