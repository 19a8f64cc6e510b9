use Prim.Native.Nat.{ℕ, ◌-◌}
use mathlib.Core.Path.{◌≡◌, refl, sym, subst, ◌∙◌}
use native.Mathlib.Omega.{arith}
use Rattle.base.proofs.Le.{bytes_of}
use Rattle.types.specs.Values.{as_maybe}
use Rattle.list_lanes.specs.Lanes.{lane_ranges}
use Rattle.list_window.specs.Window.{Gathering}
use Rattle.list_window.specs.Step.{NextTaken}
use Rattle.list_lanes.proofs.Lanes.{lane_past}
use Rattle.list_window.proofs.Entering.{lane_none}
use Rattle.list_window.proofs.Gathering.{gathering_start, gathering_more, enterable, gathered}
use Rattle.list_window.proofs.gather.Goals as goal

pub loop-k-init : goal.loop-k-init
unfolding as_maybe
loop-k-init c = let a = c.args in
    (omega arith, (refl, (refl, gathering_start (lane_ranges a.wanted a.store.now a.order.now) a.store.now (as_maybe a.last) a.edges.now)))

pub loop-k-smaller-then-order-k : goal.loop-k-smaller-then-order-k
loop-k-smaller-then-order-k c = omega arith

pub loop-k-preserved-then-order-k : goal.loop-k-preserved-then-order-k
loop-k-preserved-then-order-k c = let a = c.args in
    let l = c.loop-k in
    let none : NextTaken a.store.now (lane_ranges a.wanted a.store.now a.order.now l.k) (as_maybe a.last) l.edges l.edges l.window
    l.window l.k =
    rw (lane_past a.wanted a.store.now a.order.now l.k (omega (arith, c.if-order-k.true)))
    (lane_none a.store.now (as_maybe a.last) l.edges l.window l.k) in (
      omega arith,
      (
        l.invariant.1.0,
        (
          l.invariant.1.1.0,
          gathering_more (lane_ranges a.wanted a.store.now a.order.now) a.store.now (as_maybe a.last)
              l.edges l.edges l.window l.window l.k l.invariant.1.1.1 none,
        ),
      ),
    )

pub slice_bounds-next_lane-end : goal.slice_bounds-next_lane-end
slice_bounds-next_lane-end c = sym c.loop-k.invariant.1.1.0

pub next_lane-window-requires : goal.next_lane-window-requires
next_lane-window-requires c = let o = c in
    let a = o.args in
    let l = c.loop-k in
    let here = c.if-order-k.false in
    let bytes = bytes_of a.store.now (λ j h. omega (arith, c.shared_slice_known-1.given j)) in (
      omega (arith, here),
      enterable (lane_ranges a.wanted a.store.now a.order.now) a.store.now (as_maybe a.last) (as_maybe l.window.bound)
          l.edges l.window.n a.order.now o.requires.0 bytes l.spare (omega (arith, o.requires.1, l.invariant.1.0))
          (omega (arith, o.requires.1, l.invariant.1.0, l.invariant.1.1.0)) l.k (omega arith) l.invariant.1.1.1 (omega (arith, here)),
    )

pub loop-k-smaller : goal.loop-k-smaller
loop-k-smaller c = omega arith

pub loop-k-preserved : goal.loop-k-preserved
loop-k-preserved c = let a = c.args in
    let l = c.loop-k in
    let t = c.next_lane-window in (
      omega arith,
      (
        t.ensures.long ∙ l.invariant.1.0,
        (
          t.auto.spare ∙ l.invariant.1.1.0,
          gathering_more (lane_ranges a.wanted a.store.now a.order.now) a.store.now (as_maybe a.last) l.edges _ l.window t.result
              l.k l.invariant.1.1.1 t.ensures,
        ),
      ),
    )

pub slice_bounds-sort_rows-end : goal.slice_bounds-sort_rows-end
slice_bounds-sort_rows-end c = sym c.loop-k.invariant.1.1.0

pub sort_rows-requires : goal.sort_rows-requires
sort_rows-requires c = let o = c in
    let l = c.loop-k in
    let g = l.invariant.1.1.1.held in
    record { room = g.room; spared = omega (arith, g.room, o.requires.1, l.invariant.1.0, l.invariant.1.1.0); inside = g.inside }

pub shape_of-edges : goal.shape_of-edges
shape_of-edges c = c.sort_rows.ensures.long ∙ c.loop-k.invariant.1.0

pub returns : goal.returns
returns c = let a = c.args in
    let l = c.loop-k in
    let e : l.k ≡ 3072 = omega (arith, c.loop-k-test.false, l.invariant.0) in
    gathered (lane_ranges a.wanted a.store.now a.order.now) a.store.now (as_maybe a.last) (as_maybe l.window.bound) l.edges
    l.window.n _
    (subst (λ (k : ℕ). Gathering (lane_ranges a.wanted a.store.now a.order.now) a.store.now (as_maybe a.last) (as_maybe l.window.bound)
    l.edges l.window.n k) e l.invariant.1.1.1) c.sort_rows.ensures
