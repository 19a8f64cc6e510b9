use mathlib.Core.Path.{ap, ◌∙◌}
use native.Mathlib.Omega.{arith}
use Rattle.index_runs.specs.Values.{as_run, as_maybe, as_place}
use Rattle.index_parts.specs.Parts.{Counted}
use Rattle.index_strides.proofs.Stepping.{stepping_first, runs_moved, standing_none}
use Rattle.index_strides.proofs.Striding.{stride_left, stepping_over}
use Rattle.index_parts.proofs.run_count.Goals as goal

pub loop-next-init : goal.loop-next-init
unfolding as_place
loop-next-init c = let a = c.args in
    let m = c.next_piece-next in (
      omega arith,
      stepping_first a.own.now a.mine.now a.index.now a.n a.cursors.now m.new.mine m.new.cursors (as_maybe m.result)
          m.ensures.piece_or m.ensures.moved.0 m.ensures.moved.1,
    )

pub shape_of-cursors-in_default : goal.shape_of-cursors-in_default
shape_of-cursors-in_default c = c.loop-next.invariant.1.standing.long ∙ c.next_piece-next.ensures.moved.0.long

pub shape_of-mine-in_default : goal.shape_of-mine-in_default
shape_of-mine-in_default c = c.loop-next.invariant.1.standing.own_long ∙ c.next_piece-next.ensures.moved.1.long

pub returns-in_default : goal.returns-in_default
unfolding Counted as_maybe as_place
returns-in_default c = λ xs r.
    let a = c.args in
    let m = c.next_piece-next in
    let g = c.loop-next in
    let s = g.invariant.1 in (
      g.invariant.0,
      standing_none a.own.now m.new.mine a.index.now a.n m.new.cursors g.mine g.cursors s.place g.k s.standing
          (as_maybe g.next) s.piece (ap as_maybe c.in_default.is) xs
          (runs_moved a.own.now a.mine.now a.index.now a.n a.cursors.now m.new.mine m.new.cursors m.ensures.moved.0
          m.ensures.moved.1 xs r),
    )

pub next_stride-runs-requires : goal.next_stride-runs-requires
next_stride-runs-requires c = let s = c.loop-next.invariant.1.standing in (s.ready, s.own_ready)

pub shape_of-cursors-then-most-k : goal.shape_of-cursors-then-most-k
shape_of-cursors-then-most-k c = c.cursors-in-loop-next-1.given ∙ c.loop-next.invariant.1.standing.long ∙ c.next_piece-next.ensures.moved.0.long

pub shape_of-mine-then-most-k : goal.shape_of-mine-then-most-k
shape_of-mine-then-most-k c = c.mine-in-loop-next-1.given ∙ c.loop-next.invariant.1.standing.own_long ∙ c.next_piece-next.ensures.moved.1.long

pub returns-then-most-k : goal.returns-then-most-k
unfolding Counted as_maybe as_place
returns-then-most-k c = λ xs r.
    let a = c.args in
    let m = c.next_piece-next in
    let g = c.loop-next in
    let w = c.next_stride-runs in
    let l = stride_left a.own.now m.new.mine a.index.now a.n m.new.cursors g.mine g.cursors (as_maybe g.next) g.k
    g.invariant.1 (as_run c.in-Some.x) (ap as_maybe c.in-Some.is) w.new.mine w.new.cursors w.result w.ensures xs
    (runs_moved a.own.now a.mine.now a.index.now a.n a.cursors.now m.new.mine m.new.cursors m.ensures.moved.0
    m.ensures.moved.1 xs r) in
    omega (arith, c.if-most-k.true, l.few, g.invariant.0)

pub overflow_add-k : goal.overflow_add-k
overflow_add-k c = omega (
  arith,
  c.if-most-k.false,
  c.ranges.most,
  c.loop-next.invariant.0,
)

pub overflow_add-k-in-loop-next : goal.overflow_add-k-in-loop-next
overflow_add-k-in-loop-next c = omega (
  arith,
  c.if-most-k.false,
  c.ranges.most,
  c.loop-next.invariant.0,
)

pub loop-next-preserved : goal.loop-next-preserved
unfolding as_maybe as_place
loop-next-preserved c = let a = c.args in
    let m = c.next_piece-next in
    let g = c.loop-next in
    let w = c.next_stride-runs in (
      omega (arith, c.if-most-k.false, g.invariant.0),
      stepping_over a.own.now m.new.mine a.index.now a.n m.new.cursors g.mine g.cursors (as_maybe g.next) g.k
          g.invariant.1 (as_run c.in-Some.x) (ap as_maybe c.in-Some.is) w.new.mine w.new.cursors w.result w.ensures,
    )
