use native.Mathlib.Omega.{arith}
use native.Mathlib.Numerals.{towards_suc}
use lib.ListN.{length-set}
use Rattle.list_row_sort.specs.Rows.{row_words}
use Rattle.list_range_rows.specs.Ranges.{new_row}
use Rattle.list_range_rows.proofs.put_row.Goals as goal

pub bounds-rows-from-2 : goal.bounds-rows-from-2
bounds-rows-from-2 c = simp length-set (omega arith)

pub bounds-rows-from-3 : goal.bounds-rows-from-3
bounds-rows-from-3 c = simp length-set (omega arith)

pub returns : goal.returns
unfolding row_words new_row
returns c = simp towards_suc
