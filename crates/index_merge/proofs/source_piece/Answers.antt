use mathlib.Core.Path.{refl, sym, ap, ◌∙◌}
use Rattle.index_runs.specs.Values.{as_run, as_maybe, as_place}
use Rattle.index_pieces.specs.Pieces.{from_place}
use Rattle.index_pieces.proofs.Cursors.{skip_stop, skip_on, skip_end, piece_stop, piece_on, piece_end}
use native.Mathlib.Omega.{arith}
use Rattle.index_merge.proofs.source_piece.Goals as goal

pub loop-left-init : goal.loop-left-init
loop-left-init c = (refl, (refl, refl))

pub returns-in-Some : goal.returns-in-Some
unfolding as_maybe
returns-in-Some c = record {
  left_value = c.loop-left.invariant.0;
  index_value = sym (c.loop-left.invariant.1.0 ∙ skip_stop
      (as_place c.args.place)
      c.args.index.now c.loop-left.at
      c.loop-left.left c.loop-left-test.true
      (as_run c.in-Some.x) (sym (c.from_place-found.ensures ∙ ap
      (from_place (as_place c.args.place))
      c.read_run.ensures) ∙ ap as_maybe c.in-Some.is));
  piece_value = sym
      (c.loop-left.invariant.1.1 ∙ piece_stop
      (as_place c.args.place)
      c.args.index.now c.loop-left.at
      c.loop-left.left c.loop-left-test.true
      (as_run c.in-Some.x) (sym (c.from_place-found.ensures ∙ ap
      (from_place (as_place c.args.place))
      c.read_run.ensures) ∙ ap as_maybe c.in-Some.is));
}

pub loop-left-preserved : goal.loop-left-preserved
unfolding as_maybe
loop-left-preserved c = (
  omega arith,
  (
    c.loop-left.invariant.1.0 ∙ skip_on
        (as_place c.args.place)
        c.args.index.now c.loop-left.at
        c.loop-left.left c.loop-left-test.true
        (sym (c.from_place-found.ensures ∙ ap (from_place (as_place c.args.place))
        c.read_run.ensures) ∙ ap as_maybe c.in-None.is),
    c.loop-left.invariant.1.1 ∙
        piece_on (as_place c.args.place)
        c.args.index.now c.loop-left.at
        c.loop-left.left c.loop-left-test.true
        (sym (c.from_place-found.ensures ∙ ap (from_place (as_place c.args.place))
        c.read_run.ensures) ∙ ap as_maybe c.in-None.is),
  ),
)

pub returns : goal.returns
unfolding as_maybe
returns c = record {
  left_value = c.loop-left.invariant.0;
  index_value = sym (c.loop-left.invariant.1.0 ∙ skip_end (as_place c.args.place)
      c.args.index.now c.loop-left.at c.loop-left.left (omega (arith, c.loop-left-test.false)));
  piece_value = sym
      (c.loop-left.invariant.1.1 ∙ piece_end (as_place c.args.place) c.args.index.now
      c.loop-left.at c.loop-left.left (omega (arith, c.loop-left-test.false)));
}
