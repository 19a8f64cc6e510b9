use mathlib.Core.Path.{sym, ap, subst, ◌∙◌}
use mathlib.Core.List.{List}
use Prim.Native.Nat.{ℕ, ◌+◌, ◌*◌, ◌≤◌}
use native.Mathlib.Omega.{arith}
use lib.ListN.{set, length-set}
use lib.Seq.{take-set-le, length-take-le}
use Rattle.index_runs.specs.Values.{as_run, as_maybe, as_place}
use Rattle.index_pieces.specs.Sources.{Ready}
use Rattle.index_append.proofs.Appending.{appending_start, runs_same, appending_none, appending_few, appending_on, appending_end}
use Rattle.index_append.proofs.append_part.Goals as goal

pub offset_bounds-index-used : goal.offset_bounds-index-used
offset_bounds-index-used c = omega (arith, c.requires.room.1, c.well_formed.0)

pub bounds-index-used : goal.bounds-index-used
bounds-index-used c = omega (arith, c.requires.room.1)

pub slice_bounds-next_piece-end : goal.slice_bounds-next_piece-end
slice_bounds-next_piece-end c = simp length-set (omega (arith, c.requires.room.1))

pub slice_bounds-next_piece-end-2 : goal.slice_bounds-next_piece-end-2
slice_bounds-next_piece-end-2 c = let a = c.args in
    sym (length-take-le a.used (set a.index.now a.used a.count)
    (omega (arith, c.requires.room.1, length-set a.index.now a.used a.count)))

pub next_piece-next-requires : goal.next_piece-next-requires
next_piece-next-requires c = let a = c.args in (
  subst (λ (ws : List ℕ). Ready ws a.cursors.now a.n) (sym (take-set-le a.used a.index.now a.used a.count (omega arith))) c.requires.sources.0,
  c.requires.sources.1,
)

pub loop-k-init : goal.loop-k-init
unfolding as_place
loop-k-init c = let a = c.args in
    let m = c.next_piece-next in
    appending_start a.own.now a.mine.now a.index.now a.used a.count a.n a.cursors.now m.new.mine m.new.cursors
    m.ensures.moved.0 m.ensures.moved.1 (as_maybe m.result) m.ensures.piece_or

pub shape_of-index-in_default : goal.shape_of-index-in_default
shape_of-index-in_default c = let a = c.args in c.loop-k.invariant.long ∙ length-set a.index.now a.used a.count

pub shape_of-cursors-in_default : goal.shape_of-cursors-in_default
unfolding as_place
shape_of-cursors-in_default c = c.loop-k.invariant.stepping.standing.long ∙ c.next_piece-next.ensures.moved.0.long

pub shape_of-mine-in_default : goal.shape_of-mine-in_default
unfolding as_place
shape_of-mine-in_default c = c.loop-k.invariant.stepping.standing.own_long ∙ c.next_piece-next.ensures.moved.1.long

pub returns-in_default : goal.returns-in_default
unfolding as_maybe as_place
returns-in_default c = λ xs r h.
    let a = c.args in
    let m = c.next_piece-next in
    let g = c.loop-k in
    absurd (omega (
      arith,
      appending_none a.own.now m.new.mine (set a.index.now a.used a.count) a.used a.count a.n m.new.cursors g.mine
          g.index g.cursors (as_maybe g.next) g.k g.invariant (ap as_maybe c.in_default.is) xs
          (runs_same a.own.now a.mine.now a.index.now a.used a.count a.n a.cursors.now m.new.mine m.new.cursors
          m.ensures.moved.0 m.ensures.moved.1 xs r),
      c.loop-k-test.true,
    ))

pub slice_bounds-next_stride-end : goal.slice_bounds-next_stride-end
slice_bounds-next_stride-end c = let a = c.args in
    omega (
      arith,
      c.requires.room.1,
      c.loop-k.invariant.long,
      length-set a.index.now a.used a.count,
    )

pub slice_bounds-next_stride-end-in-loop-k : goal.slice_bounds-next_stride-end-in-loop-k
slice_bounds-next_stride-end-in-loop-k c = let a = c.args in
    sym (length-take-le a.used c.loop-k.index
    (omega (
      arith,
      c.requires.room.1,
      c.loop-k.invariant.long,
      length-set a.index.now a.used a.count,
    )))

pub next_stride-runs-requires : goal.next_stride-runs-requires
next_stride-runs-requires c = let a = c.args in
    let g = c.loop-k in
    let s = g.invariant.stepping.standing in (subst (λ (ws : List ℕ). Ready ws g.cursors a.n) (sym g.invariant.kept) s.ready, s.own_ready)

pub overflow_sub-count : goal.overflow_sub-count
overflow_sub-count c = omega (arith, c.loop-k-test.true)

pub shape_of-index-then-count-k : goal.shape_of-index-then-count-k
shape_of-index-then-count-k c = let a = c.args in c.loop-k.invariant.long ∙ length-set a.index.now a.used a.count

pub shape_of-cursors-then-count-k : goal.shape_of-cursors-then-count-k
unfolding as_place
shape_of-cursors-then-count-k c = c.cursors-in-loop-k-1.given ∙ c.loop-k.invariant.stepping.standing.long ∙ c.next_piece-next.ensures.moved.0.long

pub shape_of-mine-then-count-k : goal.shape_of-mine-then-count-k
unfolding as_place
shape_of-mine-then-count-k c = c.mine-in-loop-k-1.given ∙ c.loop-k.invariant.stepping.standing.own_long ∙ c.next_piece-next.ensures.moved.1.long

pub returns-then-count-k : goal.returns-then-count-k
unfolding as_maybe as_place
returns-then-count-k c = λ xs r h.
    let a = c.args in
    let m = c.next_piece-next in
    let g = c.loop-k in
    let w = c.next_stride-runs in
    absurd (omega (
      arith,
      appending_few a.own.now m.new.mine (set a.index.now a.used a.count) a.used a.count a.n m.new.cursors g.mine
          g.index g.cursors (as_maybe g.next) g.k g.invariant (as_run c.in-Some.x) (ap as_maybe c.in-Some.is)
          w.new.mine w.new.cursors w.result w.ensures xs
          (runs_same a.own.now a.mine.now a.index.now a.used a.count a.n a.cursors.now m.new.mine m.new.cursors
          m.ensures.moved.0 m.ensures.moved.1 xs r),
      c.if-count-k.true,
      c.loop-k-test.true,
    ))

pub overflow_add-used : goal.overflow_add-used
overflow_add-used c = omega (
  arith,
  c.requires.room.1,
  c.well_formed.0,
)

pub overflow_mul-k : goal.overflow_mul-k
overflow_mul-k c = omega (
  arith,
  c.requires.room.1,
  c.well_formed.0,
  c.loop-k-test.true,
)

pub overflow_add-used-in-loop-k : goal.overflow_add-used-in-loop-k
overflow_add-used-in-loop-k c = omega (
  arith,
  c.requires.room.1,
  c.well_formed.0,
  c.loop-k-test.true,
)

pub write_stride-requires : goal.write_stride-requires
write_stride-requires c = let a = c.args in
    let g = c.loop-k in
    let w = c.next_stride-runs in
    let long = length-set a.index.now a.used a.count in
    let inside : w.result.pos + 10 * w.result.more ≤ a.used = omega (
      arith,
      w.ensures.inside,
      length-take-le a.used g.index (omega (
        arith,
        c.requires.room.1,
        g.invariant.long,
        long,
      )),
    ) in (
      omega (arith, inside),
      omega (
        arith,
        c.requires.room.1,
        c.if-count-k.false,
        g.invariant.long,
        long,
      ),
    )

pub overflow_add-k : goal.overflow_add-k
overflow_add-k c = omega (
  arith,
  c.if-count-k.false,
  c.requires.room.1,
  c.well_formed.0,
)

pub overflow_add-k-in-loop-k : goal.overflow_add-k-in-loop-k
overflow_add-k-in-loop-k c = omega (
  arith,
  c.if-count-k.false,
  c.requires.room.1,
  c.well_formed.0,
)

pub loop-k-smaller : goal.loop-k-smaller
loop-k-smaller c = omega (arith, c.if-count-k.false)

pub loop-k-preserved : goal.loop-k-preserved
unfolding as_maybe as_place
loop-k-preserved c = let a = c.args in
    let m = c.next_piece-next in
    let g = c.loop-k in
    let w = c.next_stride-runs in
    appending_on a.own.now m.new.mine (set a.index.now a.used a.count) a.used a.count a.n m.new.cursors g.mine
    g.index g.cursors (as_maybe g.next) g.k g.invariant (as_run c.in-Some.x) (ap as_maybe c.in-Some.is)
    w.new.mine w.new.cursors w.result w.ensures (omega (arith, c.if-count-k.false)) _ c.write_stride.ensures

pub overflow_add-index : goal.overflow_add-index
overflow_add-index c = omega (
  arith,
  c.requires.room.1,
  c.well_formed.0,
)

pub overflow_mul-index : goal.overflow_mul-index
overflow_mul-index c = omega (
  arith,
  c.requires.room.1,
  c.well_formed.0,
)

pub overflow_add-index-2 : goal.overflow_add-index-2
overflow_add-index-2 c = omega (
  arith,
  c.requires.room.1,
  c.well_formed.0,
)

pub bounds-index-0 : goal.bounds-index-0
bounds-index-0 c = let a = c.args in
    omega (
      arith,
      c.requires.room.1,
      c.loop-k.invariant.long,
      length-set a.index.now a.used a.count,
    )

pub shape_of-index : goal.shape_of-index
shape_of-index c = let a = c.args in
    length-set c.loop-k.index 0 (a.used + 1 + 10 * a.count) ∙ c.loop-k.invariant.long ∙ length-set a.index.now a.used a.count

pub shape_of-cursors : goal.shape_of-cursors
unfolding as_place
shape_of-cursors c = c.loop-k.invariant.stepping.standing.long ∙ c.next_piece-next.ensures.moved.0.long

pub shape_of-mine : goal.shape_of-mine
unfolding as_place
shape_of-mine c = c.loop-k.invariant.stepping.standing.own_long ∙ c.next_piece-next.ensures.moved.1.long

pub returns : goal.returns
unfolding as_place
returns c = λ xs r h.
    let a = c.args in
    let m = c.next_piece-next in
    let g = c.loop-k in
    appending_end a.own.now m.new.mine a.index.now a.used a.count a.n m.new.cursors g.mine g.index g.cursors
    (as_maybe g.next) g.k g.invariant (omega (arith, c.loop-k-test.false)) xs
    (runs_same a.own.now a.mine.now a.index.now a.used a.count a.n a.cursors.now m.new.mine m.new.cursors
    m.ensures.moved.0 m.ensures.moved.1 xs r) h
