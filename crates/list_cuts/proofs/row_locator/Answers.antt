use Rattle.types.specs.Values.{as_locator}
use Rattle.list_row_sort.specs.Rows.{row_at, key_of}
use Rattle.list_cuts.proofs.row_locator.Goals as goal

pub read_reference-block-requires : goal.read_reference-block-requires
unfolding row_at
read_reference-block-requires c = c.requires.1

pub returns : goal.returns
unfolding as_locator key_of row_at
returns c = rw c.read_reference-block.ensures
