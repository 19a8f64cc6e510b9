-- Machinery for the contracts of inner functions: the two edges of one row. Assumes nothing: these are definitions.
use Rattle.std.specs.Prelude.{ℕ, ◌+◌, ◌*◌, List}
use Rattle.std.proofs.lemmas.List.Edits.{sets}
use Rattle.list_row_sort.specs.Rows.{Row, row_words}
use Rattle.list_edge_rows.specs.Edges.{start_edge, end_edge}

-- a table with the edges of a row put after the first n
unfoldable pub put_both : List ℕ → ℕ → ℕ → Row → List ℕ
put_both t n place r = sets (sets t (3 * n) (row_words (start_edge place r))) (3 * (n + 1)) (row_words (end_edge place r))
