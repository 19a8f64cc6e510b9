use Prim.Native.Nat.{◌-◌, ◌≤◌}
use Rattle.index_runs.specs.Values.{as_maybe, as_place}
use Rattle.index_pieces.proofs.Cursors.{Passing, SoFar}
use Rattle.index_merge.proofs.sources_piece.Given as goal

abbrev pub invariant-loop-k : goal.invariant-loop-k
invariant-loop-k l = (l.k ≤ l.n) ×
    (Passing l.index (as_place l.place) l.initial.cursors l.cursors l.k
    × SoFar l.index l.initial.cursors (as_place l.place) (as_maybe l.initial.piece) l.k (as_maybe l.piece))
