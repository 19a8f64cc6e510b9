use mathlib.Core.Path.{sym, ap, subst, ◌∙◌}
use mathlib.Core.Bool.{◌&&◌}
use mathlib.Core.Option.{Option}
use Rattle.index_spec.specs.Runs.{Run, run, touches, same_voters}
use Rattle.index_runs.specs.Values.{as_run, as_maybe, as_place}
use Rattle.index_pieces.specs.Sources.{ended, GrownFrom}
use Rattle.index_merge.proofs.Merged.{growing_start, grown_none, grown_other, grown_past, grown_on}
use native.Mathlib.Omega.{arith}
use Rattle.index_merge.proofs.whole_run.Goals as goal

pub loop-y-init : goal.loop-y-init
unfolding as_run run
loop-y-init c = growing_start c.args.own.now c.args.mine.now
    c.args.index.now c.args.n
    c.args.cursors.now (as_run c.args.first)
    c.requires.0 c.requires.1

pub next_piece-next-requires : goal.next_piece-next-requires
next_piece-next-requires c = (c.loop-y.invariant.ready, c.loop-y.invariant.own_ready)

pub shape_of-cursors-in_default : goal.shape_of-cursors-in_default
shape_of-cursors-in_default c = c.next_piece-next.ensures.moved.0.long ∙ c.loop-y.invariant.long

pub shape_of-mine-in_default : goal.shape_of-mine-in_default
shape_of-mine-in_default c = c.next_piece-next.ensures.moved.1.long ∙ c.loop-y.invariant.own_long

pub returns-in_default : goal.returns-in_default
unfolding as_maybe as_run run as_place ended
returns-in_default c = rw c.ended-run.ensures
    (subst (λ (o : Option Run). GrownFrom c.args.own.now c.args.mine.now c.next_piece-next.new.mine
    c.args.index.now
    c.args.n
    c.args.cursors.now
    c.next_piece-next.new.cursors
    (as_run c.args.first)
    (ended (as_run c.args.first) c.loop-y.end) o) (ap as_maybe c.in_default.is)
    (grown_none c.args.own.now c.args.mine.now
    c.args.index.now
    c.args.n
    c.args.cursors.now
    (as_run c.args.first)
    c.loop-y.mine
    c.next_piece-next.new.mine
    c.loop-y.cursors
    c.next_piece-next.new.cursors
    c.loop-y.end
    (as_maybe c.next_piece-next.result)
    c.loop-y.invariant
    c.next_piece-next.ensures.piece_or c.next_piece-next.ensures.moved.0
    c.next_piece-next.ensures.moved.1 (ap as_maybe c.in_default.is)))

pub shape_of-cursors-then-not-continues : goal.shape_of-cursors-then-not-continues
shape_of-cursors-then-not-continues c = c.next_piece-next.ensures.moved.0.long ∙ c.loop-y.invariant.long

pub shape_of-mine-then-not-continues : goal.shape_of-mine-then-not-continues
shape_of-mine-then-not-continues c = c.next_piece-next.ensures.moved.1.long ∙ c.loop-y.invariant.own_long

pub returns-then-not-continues : goal.returns-then-not-continues
unfolding as_maybe as_run run as_place ended
returns-then-not-continues c = rw c.ended-run.ensures
    (subst (λ (o : Option Run). GrownFrom c.args.own.now
    c.args.mine.now c.next_piece-next.new.mine
    c.args.index.now c.args.n c.args.cursors.now
    c.next_piece-next.new.cursors
    (as_run c.args.first) (ended (as_run c.args.first) c.loop-y.end) o) (ap as_maybe c.in-Some.is)
    (grown_other c.args.own.now c.args.mine.now
    c.args.index.now c.args.n c.args.cursors.now
    (as_run c.args.first) c.loop-y.mine
    c.next_piece-next.new.mine
    c.loop-y.cursors
    c.next_piece-next.new.cursors
    c.loop-y.end
    (as_maybe c.next_piece-next.result)
    c.loop-y.invariant
    c.next_piece-next.ensures.piece_or
    c.next_piece-next.ensures.moved.0
    c.next_piece-next.ensures.moved.1
    (as_run c.in-Some.y) (ap as_maybe c.in-Some.is)
    (sym (ap (λ (r : Run). touches r (as_run c.in-Some.y) && same_voters r.votes
    (as_run c.in-Some.y).votes)
    c.ended-run.ensures) ∙ sym c.continues.ensures
    ∙ c.if-not-continues.true)))

pub loop-y-smaller : goal.loop-y-smaller
unfolding as_maybe as_run run as_place ended
loop-y-smaller c = omega (
  arith,
  grown_past c.args.own.now
      c.args.mine.now c.args.index.now c.args.n
      c.args.cursors.now (as_run c.args.first) c.loop-y.mine c.next_piece-next.new.mine
      c.loop-y.cursors
      c.next_piece-next.new.cursors
      c.loop-y.end
      (as_maybe c.next_piece-next.result)
      c.loop-y.invariant
      c.next_piece-next.ensures.piece_or
      c.next_piece-next.ensures.moved.0
      c.next_piece-next.ensures.moved.1
      (as_run c.in-Some.y) (ap as_maybe c.in-Some.is)
      (sym (ap (λ (r : Run). touches r (as_run c.in-Some.y) && same_voters r.votes
      (as_run c.in-Some.y).votes)
      c.ended-run.ensures) ∙ sym c.continues.ensures
      ∙ c.if-not-continues.false),
)

pub loop-y-preserved : goal.loop-y-preserved
unfolding as_maybe as_run run as_place ended
loop-y-preserved c = grown_on c.args.own.now c.args.mine.now
    c.args.index.now c.args.n c.args.cursors.now
    (as_run c.args.first) c.loop-y.mine
    c.next_piece-next.new.mine
    c.loop-y.cursors
    c.next_piece-next.new.cursors
    c.loop-y.end
    (as_maybe c.next_piece-next.result)
    c.loop-y.invariant
    c.next_piece-next.ensures.piece_or
    c.next_piece-next.ensures.moved.0
    c.next_piece-next.ensures.moved.1
    (as_run c.in-Some.y) (ap as_maybe c.in-Some.is)
    (sym (ap (λ (r : Run). touches r (as_run c.in-Some.y) && same_voters r.votes
    (as_run c.in-Some.y).votes)
    c.ended-run.ensures) ∙ sym c.continues.ensures
    ∙ c.if-not-continues.false)
