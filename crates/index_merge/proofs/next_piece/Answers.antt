use Rattle.index_runs.specs.Values.{as_maybe, as_place}
use Rattle.index_merge.proofs.Merged.{together_piece}
use Rattle.index_merge.proofs.next_piece.Goals as goal

pub returns : goal.returns
unfolding as_maybe
returns c = record {
  piece_or = together_piece c.args.own.now
      c.args.mine.now
      c.args.index.now
      c.args.cursors.now
      c.args.n
      (as_place c.args.place)
      (as_maybe c.sources_piece-piece.result) (as_maybe c.sources_piece.result)
      c.sources_piece-piece.ensures.piece_or c.sources_piece.ensures.piece_or;
  moved = (c.sources_piece.ensures.moved, c.sources_piece-piece.ensures.moved);
}
