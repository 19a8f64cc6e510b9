use mathlib.Core.Path.{◌≡◌, ap, subst, ◌∙◌}
use Prim.Native.Nat.{ℕ}
use lib.ListN.{length-set}
use Rattle.index_runs.specs.Values.{as_maybe, as_place}
use Rattle.index_pieces.specs.Pieces.{first_piece, skipped}
use Rattle.index_pieces.specs.Sources.{cursor_at, cursor_left, source}
use Rattle.index_pieces.proofs.Cursors.{Passing, SoFar, passing_start, passing_source, passing_inside, passing_step, passing_end, so_far_start, so_far_on}
use native.Mathlib.Omega.{arith}
use Rattle.index_merge.proofs.sources_piece.Goals as goal

pub loop-k-init : goal.loop-k-init
loop-k-init c = (
  omega arith,
  (
    passing_start c.args.index.now (as_place c.args.place)
        c.args.cursors.now,
    so_far_start c.args.index.now c.args.cursors.now
        (as_place c.args.place) (as_maybe c.args.other),
  ),
)

pub source_piece-found-requires : goal.source_piece-found-requires
source_piece-found-requires c = passing_inside c.args.index.now
    (as_place c.args.place) c.args.cursors.now
    c.loop-k.cursors c.loop-k.k c.args.n
    c.requires c.loop-k.invariant.1.0 c.loop-k-test.true

pub bounds-cursors-k-in-loop-k-3 : goal.bounds-cursors-k-in-loop-k-3
bounds-cursors-k-in-loop-k-3 c = simp length-set (omega arith)

pub loop-k-preserved : goal.loop-k-preserved
unfolding source cursor_at cursor_left SoFar
loop-k-preserved c = let found = c.source_piece-found in (
  omega arith,
  (
    passing_step c.args.index.now
        (as_place c.args.place)
        c.args.cursors.now c.loop-k.cursors
        c.loop-k.k found.result.at found.result.left (omega arith)
        c.loop-k.invariant.1.0
        (found.ensures.index_value ∙ ap (skipped (as_place c.args.place))
        (passing_source c.args.index.now
        (as_place c.args.place)
        c.args.cursors.now c.loop-k.cursors
        c.loop-k.k c.loop-k.invariant.1.0))
        (omega (
          arith,
          found.ensures.left_value,
          passing_inside c.args.index.now
              (as_place c.args.place)
              c.args.cursors.now c.loop-k.cursors
              c.loop-k.k c.args.n
              c.requires c.loop-k.invariant.1.0
              c.loop-k-test.true,
        )),
    rw c.both-piece.ensures (so_far_on c.args.index.now
        c.args.cursors.now
        (as_place c.args.place)
        (as_maybe c.args.other) c.loop-k.k
        (as_maybe c.loop-k.piece) (as_maybe found.result.piece)
        (c.requires.chains c.loop-k.k
        c.loop-k-test.true) c.loop-k.invariant.1.1
        (found.ensures.piece_value ∙ ap (first_piece (as_place c.args.place))
        (passing_source c.args.index.now
        (as_place c.args.place)
        c.args.cursors.now c.loop-k.cursors
        c.loop-k.k c.loop-k.invariant.1.0))),
  ),
)

pub shape_of-cursors : goal.shape_of-cursors
shape_of-cursors c = c.loop-k.invariant.1.0.long

pub returns : goal.returns
unfolding SoFar
returns c = let e : c.loop-k.k ≡ c.args.n = omega (arith, c.loop-k.invariant.0, c.loop-k-test.false) in record {
  piece_or = subst (λ (m : ℕ). SoFar c.args.index.now c.args.cursors.now
      (as_place c.args.place) (as_maybe c.args.other) m
      (as_maybe c.loop-k.piece)) e c.loop-k.invariant.1.1;
  moved = passing_end c.args.index.now (as_place c.args.place)
      c.args.cursors.now c.loop-k.cursors c.args.n
      c.requires (subst (Passing c.args.index.now
      (as_place c.args.place) c.args.cursors.now c.loop-k.cursors) e
      c.loop-k.invariant.1.0);
}
