use Prim.Native.Nat.{◌-◌}
use native.Mathlib.Omega.{arith}
use Rattle.feed_events.proofs.Announced.{announcing_start, announcing_on, announcing_end, stated_long}
use Rattle.feed_events.proofs.announce.Goals as goal

pub loop-o-init : goal.loop-o-init
loop-o-init c = announcing_start _ _ _ _ _ _ _ _ _ _ c.requires.room

pub stretch_at-stretch-requires : goal.stretch_at-stretch-requires
stretch_at-stretch-requires c = (c.requires.table, c.loop-o-test.true)

pub stretch_events-k-requires : goal.stretch_events-k-requires
stretch_events-k-requires c =
    let o = c in
    let l = c in
    let s = c.stretch_at-stretch.ensures in record {
      stored = o.requires.stored;
      table = (o.requires.table, s.found, s.same);
      room = (
        omega (arith, s.onward),
        omega
            (arith, s.onward, s.most, l.loop-o.invariant.enough, stated_long _ _ _ _ _ l.loop-o.invariant.stated),
      );
    }

pub loop-o-smaller : goal.loop-o-smaller
loop-o-smaller c = omega (arith, c.stretch_at-stretch.ensures.onward, c.stretch_at-stretch.ensures.most)

pub loop-o-preserved : goal.loop-o-preserved
loop-o-preserved c =
    let l = c in
    let s = c.stretch_at-stretch.ensures in
    announcing_on _ _ _ _ _ _ _ _ _ _ _ _ _ _ _ _ l.loop-o.invariant s.onward s.most c.stretch_events-k.ensures

pub shape_of-events : goal.shape_of-events
shape_of-events c = stated_long _ _ _ _ _ c.loop-o.invariant.stated

pub returns : goal.returns
returns c = announcing_end _ _ _ _ _ _ _ _ _ _ _ _ _ c.loop-o.invariant c.loop-o-test.false
