use lib.ListN.{length-set}
use Rattle.index_cursors.proofs.Moving.{moving_start, moving_on, moving_room, moving_left, moving_fits, moving_end}
use native.Mathlib.Omega.{arith}
use Rattle.index_cursors.proofs.move_on.Goals as goal

pub loop-j-init : goal.loop-j-init
loop-j-init c = (omega arith, moving_start c.args.cursors.now c.args.k)

pub bounds-cursors-j : goal.bounds-cursors-j
bounds-cursors-j c =
    let a = c.args in
    let g = c.loop-j in
    omega (
      arith,
      moving_room a.cursors.now a.k g.cursors g.j g.invariant.1 a.n c.requires
          c.loop-j-test.true,
    )

pub moved_at-requires : goal.moved_at-requires
moved_at-requires c =
    let a = c.args in
    let g = c.loop-j in
    let q = c.requires in
    let h = c.loop-j-test.true in (
      λ k. moving_left a.cursors.now a.k g.cursors g.j g.invariant.1 a.n q h k,
      moving_fits a.cursors.now a.k g.cursors g.j
          g.invariant.1 a.n q h,
    )

pub bounds-cursors-j-in-loop-j-2 : goal.bounds-cursors-j-in-loop-j-2
bounds-cursors-j-in-loop-j-2 c =
    let a = c.args in
    let g = c.loop-j in
    omega (
      arith,
      moving_room a.cursors.now a.k g.cursors g.j g.invariant.1 a.n c.requires
          c.loop-j-test.true,
    )

pub bounds-cursors-j-in-loop-j-3 : goal.bounds-cursors-j-in-loop-j-3
bounds-cursors-j-in-loop-j-3 c =
    let a = c.args in
    let g = c.loop-j in
    simp length-set (omega (
      arith,
      moving_room a.cursors.now a.k g.cursors g.j g.invariant.1 a.n
          c.requires c.loop-j-test.true,
    ))

pub loop-j-preserved : goal.loop-j-preserved
loop-j-preserved c =
    let a = c.args in
    let g = c.loop-j in
    let room = moving_room a.cursors.now a.k g.cursors g.j g.invariant.1 a.n c.requires
    c.loop-j-test.true in (
      omega (arith, c.loop-j-test.true),
      moving_on a.cursors.now a.k g.cursors g.j g.invariant.1 _ _ room
          c.moved_at.ensures c.moved_left.ensures,
    )

pub returns : goal.returns
returns c =
    let a = c.args in
    let g = c.loop-j in
    moving_end a.cursors.now a.k g.cursors g.j g.invariant.1 a.n (omega (arith, c.loop-j-test.false))
