use mathlib.Core.Path.{ap}
use native.Mathlib.Omega.{arith}
use Rattle.types.specs.Values.{as_locator, as_maybe}
use Rattle.list_lanes.specs.Lanes.{lane_ranges}
use Rattle.list_sweep.specs.Step.{Gone, Moved}
use Rattle.list_sweep.proofs.Sweeping.{stop_ready, stop_moved, all_passed, renewed, none_whole}
use Rattle.list_sweep.proofs.go_on.Goals as goal

pub pass_stop-sweep-requires : goal.pass_stop-sweep-requires
pass_stop-sweep-requires c = let a = c.args in
    let p = c.requires in
    stop_ready (lane_ranges a.wanted a.store.now a.order.now) a.store.now a.edges.now a.marks.now a.window a.at p.1.here
    p.1.stands p.0.long c.if-at-window.true

pub returns-then-at-window : goal.returns-then-at-window
unfolding Gone Moved
returns-then-at-window c = λ here st.
    let a = c.args in
    stop_moved (lane_ranges a.wanted a.store.now a.order.now) a.store.now a.edges.now a.marks.now a.window a.at here st
    c.if-at-window.true _ c.pass_stop-sweep.result c.pass_stop-sweep.ensures

pub returns-in_err-last : goal.returns-in_err-last
unfolding Gone Moved as_maybe
returns-in_err-last c = λ here st.
    let a = c.args in
    rw c.from_residual.ensures
    (all_passed (lane_ranges a.wanted a.store.now a.order.now) a.store.now a.edges.now a.marks.now a.window a.at here st
    c.if-at-window.false (ap as_maybe c.in_err-last.was))

pub returns-then-next-eq0 : goal.returns-then-next-eq0
unfolding Gone Moved as_maybe
returns-then-next-eq0 c = λ here st.
    let a = c.args in
    let whole = none_whole (lane_ranges a.wanted a.store.now a.order.now) a.store.now a.edges.now a.marks.now a.window a.at here
    st (as_locator c.in_ok-last.field-0)
    (ap as_maybe c.in_ok-last.was)
    c.if-at-window.false _ c.gather-next.result
    c.gather-next.ensures c.if-next-eq0.true in
    all_passed (lane_ranges a.wanted a.store.now a.order.now) a.store.now _ a.marks.now c.gather-next.result
    0 here (renewed (lane_ranges a.wanted a.store.now a.order.now) a.store.now a.edges.now a.marks.now a.window a.at here st
    (as_locator c.in_ok-last.field-0)
    (ap as_maybe c.in_ok-last.was)
    c.if-at-window.false _ c.gather-next.result
    c.gather-next.ensures) (omega (arith, c.if-next-eq0.true)) whole

pub pass_stop-sweep-requires-2 : goal.pass_stop-sweep-requires-2
unfolding as_maybe
pass_stop-sweep-requires-2 c = let a = c.args in
    let p = c.requires in
    let here = p.1.here in
    let st = p.1.stands in
    stop_ready (lane_ranges a.wanted a.store.now a.order.now) a.store.now _ a.marks.now
    c.gather-next.result 0 here
    (renewed (lane_ranges a.wanted a.store.now a.order.now) a.store.now a.edges.now a.marks.now a.window a.at here st
    (as_locator c.in_ok-last.field-0)
    (ap as_maybe c.in_ok-last.was)
    c.if-at-window.false _
    c.gather-next.result c.gather-next.ensures) p.0.long
    (omega (arith, c.if-next-eq0.false))

pub returns : goal.returns
unfolding Gone Moved as_maybe
returns c = λ here st.
    let a = c.args in
    stop_moved (lane_ranges a.wanted a.store.now a.order.now) a.store.now _ a.marks.now
    c.gather-next.result 0 here
    (renewed (lane_ranges a.wanted a.store.now a.order.now) a.store.now a.edges.now a.marks.now a.window a.at here st
    (as_locator c.in_ok-last.field-0)
    (ap as_maybe c.in_ok-last.was)
    c.if-at-window.false _
    c.gather-next.result
    c.gather-next.ensures)
    (omega (arith, c.if-next-eq0.false)) _ c.pass_stop-sweep-2.result c.pass_stop-sweep-2.ensures
