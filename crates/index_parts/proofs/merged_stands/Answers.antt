use mathlib.Core.Path.{sym, ap, subst, ◌∙◌}
use lib.ListN.{drop}
use Rattle.index_runs.specs.Values.{as_run, as_maybe, as_place}
use Rattle.index_pieces.specs.Pieces.{PieceOr}
use Rattle.index_pieces.specs.Sources.{together}
use Rattle.index_parts.specs.Parts.{RunPassed, StandsNext}
use Rattle.index_strides.proofs.Stepping.{moved_piece}
use Rattle.index_parts.proofs.Passed.{grown_passed, moved_passed, none_next, other_next}
use Rattle.index_parts.proofs.merged_stands.Goals as goal

pub returns-in_default : goal.returns-in_default
unfolding StandsNext as_maybe
returns-in_default c = λ y m d. none_next c.args.own.now
    c.args.mine.now
    c.args.index.now
    c.args.n
    c.args.cursors.now
    (as_place c.args.place)
    (as_maybe c.next_piece-next.result)
    c.next_piece-next.ensures.piece_or (ap as_maybe c.in_default.is) y m

pub whole_run-grown-requires : goal.whole_run-grown-requires
whole_run-grown-requires c = (
  c.next_piece-next.ensures.moved.0.ready,
  c.next_piece-next.ensures.moved.1.ready,
)

pub stands_at-requires : goal.stands_at-requires
stands_at-requires c = c.requires.1

pub returns-then-not-stands_at : goal.returns-then-not-stands_at
unfolding StandsNext as_maybe PieceOr
returns-then-not-stands_at c = λ y m d.
    let w : RunPassed c.args.own.now
    c.args.mine.now
    c.whole_run-grown.new.mine
    c.args.index.now
    c.args.n
    c.args.cursors.now
    c.whole_run-grown.new.cursors
    (as_place c.args.place)
    (as_run c.whole_run-grown.result.run) =
    moved_passed c.args.own.now
    c.args.mine.now
    c.args.index.now
    c.args.n
    c.args.cursors.now
    (as_place c.args.place)
    c.next_piece-next.new.mine
    c.next_piece-next.new.cursors c.next_piece-next.ensures.moved.0
    c.next_piece-next.ensures.moved.1 c.whole_run-grown.new.mine
    c.whole_run-grown.new.cursors
    (as_run c.whole_run-grown.result.run)
    (grown_passed c.args.own.now
    c.next_piece-next.new.mine
    c.args.index.now
    c.args.n
    c.next_piece-next.new.cursors (as_place
    c.args.place)
    c.whole_run-grown.new.mine
    c.whole_run-grown.new.cursors
    (as_run c.in-Some.x)
    (as_run c.whole_run-grown.result.run)
    (as_maybe c.whole_run-grown.result.next)
    (subst (PieceOr (together c.args.own.now
    c.next_piece-next.new.mine
    c.args.index.now
    c.next_piece-next.new.cursors c.args.n)
    (as_place c.args.place))
    (ap as_maybe c.in-Some.is)
    (moved_piece c.args.own.now
    c.args.mine.now
    c.args.index.now
    c.args.n
    c.args.cursors.now
    (as_place c.args.place)
    c.next_piece-next.new.mine
    c.next_piece-next.new.cursors c.next_piece-next.ensures.moved.0
    c.next_piece-next.ensures.moved.1 (as_maybe
    c.next_piece-next.result) c.next_piece-next.ensures.piece_or))
    c.whole_run-grown.ensures) in
    other_next c.args.own.now
    c.args.mine.now
    c.args.index.now
    c.args.n
    c.args.cursors.now
    (as_place c.args.place)
    (as_run c.whole_run-grown.result.run) y
    (drop c.args.pos
    c.args.index.now) w.next
    (sym c.stands_at.ensures ∙ c.if-not-stands_at.true) m d

pub returns : goal.returns
unfolding StandsNext as_maybe PieceOr
returns c = (
  moved_passed c.args.own.now
      c.args.mine.now
      c.args.index.now
      c.args.n
      c.args.cursors.now
      (as_place c.args.place)
      c.next_piece-next.new.mine
      c.next_piece-next.new.cursors c.next_piece-next.ensures.moved.0
      c.next_piece-next.ensures.moved.1 c.whole_run-grown.new.mine
      c.whole_run-grown.new.cursors
      (as_run c.whole_run-grown.result.run)
      (grown_passed c.args.own.now
      c.next_piece-next.new.mine
      c.args.index.now
      c.args.n
      c.next_piece-next.new.cursors (as_place
      c.args.place)
      c.whole_run-grown.new.mine
      c.whole_run-grown.new.cursors
      (as_run c.in-Some.x)
      (as_run c.whole_run-grown.result.run)
      (as_maybe c.whole_run-grown.result.next)
      (subst (PieceOr (together c.args.own.now
      c.next_piece-next.new.mine
      c.args.index.now
      c.next_piece-next.new.cursors c.args.n)
      (as_place c.args.place))
      (ap as_maybe c.in-Some.is)
      (moved_piece c.args.own.now
      c.args.mine.now
      c.args.index.now
      c.args.n
      c.args.cursors.now
      (as_place c.args.place)
      c.next_piece-next.new.mine
      c.next_piece-next.new.cursors c.next_piece-next.ensures.moved.0
      c.next_piece-next.ensures.moved.1 (as_maybe
      c.next_piece-next.result) c.next_piece-next.ensures.piece_or))
      c.whole_run-grown.ensures),
  sym c.stands_at.ensures ∙ c.if-not-stands_at.false,
)
