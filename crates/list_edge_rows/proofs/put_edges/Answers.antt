use Rattle.list_row_sort.specs.Rows.{row_at}
use Rattle.list_range_rows.specs.Ranges.{new_row}
use Rattle.list_edge_rows.specs.Edges.{start_edge, end_edge}
use Rattle.list_edge_rows.specs.Step.{put_both}
use Rattle.list_edge_rows.proofs.put_edges.Goals as goal

pub returns : goal.returns
unfolding put_both start_edge end_edge new_row row_at
returns c = rw (c.put_row-2.ensures, c.put_row.ensures)
