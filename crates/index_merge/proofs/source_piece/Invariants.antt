use mathlib.Core.Path.{◌≡◌}
use Prim.Native.Nat.{◌+◌, ◌*◌}
use lib.ListN.{drop}
use Rattle.index_spec.specs.Walk.{runs_from}
use Rattle.index_runs.specs.Values.{as_place}
use Rattle.index_pieces.specs.Pieces.{first_piece, skipped}
use Rattle.index_merge.proofs.source_piece.Given as goal

abbrev pub invariant-loop-left : goal.invariant-loop-left
invariant-loop-left l = (l.at + 10 * l.left ≡ l.from + 10 * l.count) ×
    ((skipped (as_place l.place) (runs_from l.count (drop l.from l.index)) ≡ skipped (as_place l.place) (runs_from l.left (drop l.at l.index))) ×
    (first_piece (as_place l.place) (runs_from l.count (drop l.from l.index)) ≡ first_piece (as_place l.place) (runs_from l.left (drop l.at l.index))))

abbrev pub decreases-loop-left : goal.decreases-loop-left
decreases-loop-left l = l.left
