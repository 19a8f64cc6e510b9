use mathlib.Core.Path.{◌∙◌}
use mathlib.Core.Option.{none}
use native.Mathlib.Omega.{arith}
use Rattle.types.specs.Values.{as_maybe}
use Rattle.list_lanes.specs.Lanes.{lane_ranges}
use Rattle.list_sweep.specs.Step.{Gone}
use Rattle.list_sweep.proofs.Sweeping.{stop_ready}
use Rattle.list_sweep_start.specs.Begin.{Begun}
use Rattle.list_sweep_start.proofs.Beginning.{start_standing, start_begun, given_standing, given_begun, next_begun}
use Rattle.list_sweep_start.proofs.begin.Goals as goal

pub go_on-requires : goal.go_on-requires
unfolding as_maybe
go_on-requires c = let o = c in
    let a = o.args in
    let p = o.requires.0 in
    let g = rw c.in_default.is at c.gather-window.ensures in (
      record { sorted = p.sorted; wide = c.gather-window.auto.edges ∙ p.wide; long = p.long },
      record {
        here = none;
        stands = start_standing (lane_ranges a.wanted a.store.now a.order.now) a.store.now _ a.marks.now
            c.gather-window.result g o.requires.1;
      },
    )

pub returns-in_default : goal.returns-in_default
unfolding Gone as_maybe
returns-in_default c = let o = c in
    let a = o.args in
    let g = rw c.in_default.is at
    c.gather-window.ensures in
    rw c.in_default.is
    (start_begun (lane_ranges a.wanted a.store.now a.order.now) a.store.now a.edges.now a.marks.now
    c.gather-window.result o.requires.1 _ _
    c.go_on.result o.requires.0.long
    (c.go_on.ensures none (start_standing (lane_ranges a.wanted a.store.now a.order.now) a.store.now _
    a.marks.now c.gather-window.result g o.requires.1)))

pub returns-then-given : goal.returns-then-given
unfolding Begun as_maybe
returns-then-given c = let o = c in
    let a = o.args in
    let m = c.mark_lanes in
    let g = c.gather-window-2.ensures in
    rw c.in-Some.is
    (given_begun (lane_ranges a.wanted a.store.now a.order.now) a.store.now _ _ c.gather-window-2.result
    c.in-Some.given g m.ensures
    (m.auto.marks ∙ o.requires.0.long) c.if-given.true)

pub stand_after-sweep-requires : goal.stand_after-sweep-requires
unfolding as_maybe
stand_after-sweep-requires c = let o = c in
    let a = o.args in
    let m = c.mark_lanes in
    let g = c.gather-window-2.ensures in
    record {
      follows = omega (
        arith,
        c.if-given.false,
      );
      passable = λ h. stop_ready (lane_ranges a.wanted a.store.now a.order.now) a.store.now _ _
          c.gather-window-2.result 0 _
          (given_standing (lane_ranges a.wanted a.store.now a.order.now) a.store.now _ _
          c.gather-window-2.result
          c.in-Some.given g m.ensures)
          (m.auto.marks ∙ o.requires.0.long) h;
    }

pub returns : goal.returns
unfolding Begun as_maybe
returns c = let o = c in
    let a = o.args in
    let m = c.mark_lanes in
    let g = c.gather-window-2.ensures in
    rw c.in-Some.is
    (next_begun (lane_ranges a.wanted a.store.now a.order.now) a.store.now _ _
    c.gather-window-2.result
    c.in-Some.given g m.ensures _ c.stand_after-sweep.result c.stand_after-sweep.ensures
    (c.stand_after-sweep.auto.marks ∙ m.auto.marks ∙ o.requires.0.long))
