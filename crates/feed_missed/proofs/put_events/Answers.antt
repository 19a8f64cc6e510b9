use mathlib.Core.Path.{refl}
use Prim.Native.Nat.{◌-◌}
use native.Mathlib.Omega.{arith}
use Rattle.feed_missed.proofs.Telling.{telling_start, telling_long, telling_on, telling_end}
use Rattle.feed_missed.proofs.put_events.Goals as goal

pub loop-o-init : goal.loop-o-init
loop-o-init c = telling_start _ _ _ _ _ _ c.requires.0

pub put_event-requires : goal.put_event-requires
put_event-requires c =
    let l = c in
    let o = c in
    omega (arith, telling_long _ _ _ _ _ _ _ _ _ l.loop-o.invariant, l.loop-o.invariant.many, l.loop-o.invariant.from, c.loop-o-test.true, o.requires.1)

pub overflow_add-k : goal.overflow_add-k
overflow_add-k c =
    let l = c in
    omega (
      arith,
      l.loop-o.invariant.many,
      l.loop-o.invariant.from,
      c.loop-o-test.true,
      c.requires.1,
    )

pub loop-o-preserved : goal.loop-o-preserved
loop-o-preserved c =
    let l = c in
    telling_on _ _ _ _ _ _ _ _ _ _ _ l.loop-o.invariant c.loop-o-test.true refl c.put_event.ensures

pub shape_of-events : goal.shape_of-events
shape_of-events c = telling_long _ _ _ _ _ _ _ _ _ c.loop-o.invariant

pub returns : goal.returns
returns c = telling_end _ _ _ _ _ _ _ _ _ c.loop-o.invariant c.loop-o-test.false
