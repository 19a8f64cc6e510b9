use native.Mathlib.Omega.{arith}
use Rattle.list_row_sort.specs.Rows.{Inside}
use Rattle.list_sweep.proofs.pass_stop.Goals as goal

pub row_locator-here-requires : goal.row_locator-here-requires
unfolding Inside
row_locator-here-requires c = let p = c.requires in
    (omega (arith, p.room, p.below), p.inside _ p.below)
