use mathlib.Core.Path.{refl, ap, ◌∙◌}
use Prim.Native.Nat.{◌<◌}
use native.Mathlib.Omega.{arith}
use lib.ListN.{length, length-drop, length-set}
use Rattle.feed_many.proofs.Walk.{rest_back, rest_whole, rest_length}
use Rattle.index_feed_many.proofs.Growing.{ready_work}
use Rattle.index_feed_many.proofs.Walk.{walked_none, walked_on, word_left, walked_all}
use Rattle.index_feed_many.proofs.feed_each.Goals as goal

pub loop-at-init : goal.loop-at-init
loop-at-init c =
    let o = c in
    let a = o.args in (
      (refl, (refl, (refl, (refl, (refl, (refl, (refl, refl))))))),
      (
        o.requires.ready,
        walked_none a.stakes.now a.work.now a.outcomes.now a.records.now a.store.now a.table.now a.index.now
            a.events.now,
      ),
    )

pub feed_next-told-requires : goal.feed_next-told-requires
feed_next-told-requires c = c.loop-at.invariant.1.0

pub offset_bounds-outcomes-k : goal.offset_bounds-outcomes-k
offset_bounds-outcomes-k c =
    let o = c in
    let g = c.loop-at in
    let left : g.k < length g.outcomes = word_left g.invariant.1.1
    c.next_record-next.ensures (omega (arith, o.requires.room, g.invariant.0)) in
    omega (arith, left, g.invariant.0, o.well_formed)

pub bounds-outcomes-k : goal.bounds-outcomes-k
bounds-outcomes-k c =
    let o = c in
    let g = c.loop-at in
    let left : g.k < length g.outcomes = word_left g.invariant.1.1
    c.next_record-next.ensures (omega (arith, o.requires.room, g.invariant.0)) in
    omega (arith, left)

pub overflow_add-used : goal.overflow_add-used
overflow_add-used c =
    let g = c.loop-at in
    let d = c.feed_next-told in
    omega (
      arith,
      d.ensures.told.room,
      d.auto.events,
      ap length (rest_whole g.events g.used),
      length-drop g.used g.events,
      g.invariant.1.1.room,
      g.invariant.0,
      c.well_formed,
    )

pub overflow_add-k : goal.overflow_add-k
overflow_add-k c =
    let o = c in
    let g = c.loop-at in
    let left : g.k < length g.outcomes = word_left g.invariant.1.1
    c.next_record-next.ensures (omega (arith, o.requires.room, g.invariant.0)) in
    omega (arith, left, g.invariant.0, o.well_formed)

pub loop-at-preserved : goal.loop-at-preserved
loop-at-preserved c =
    let o = c in
    let g = c.loop-at in
    let a = o.args in
    let next = c.next_record-next in
    let d = c.feed_next-told in
    let fed = rw (rest_whole g.events g.used) at d.ensures.told in
    let left : g.k < length g.outcomes = word_left g.invariant.1.1
    c.next_record-next.ensures (omega (arith, o.requires.room, g.invariant.0)) in (
      (
        d.auto.store ∙ g.invariant.0.0,
        (
          d.auto.order ∙ g.invariant.0.1.0,
          (
            d.auto.starts ∙ g.invariant.0.1.1.0,
            (
              d.auto.table ∙ g.invariant.0.1.1.1.0,
              (
                d.auto.index ∙ g.invariant.0.1.1.1.1.0,
                (
                  d.auto.work ∙ g.invariant.0.1.1.1.1.1.0,
                  (
                    rest_length g.events d.new.events g.used g.invariant.1.1.room d.auto.events ∙ g.invariant.0.1.1.1.1.1.1.0,
                    length-set g.outcomes g.k d.result.outcome ∙ g.invariant.0.1.1.1.1.1.1.1,
                  ),
                ),
              ),
            ),
          ),
        ),
      ),
      (
        ready_work d.ensures.ready _ d.auto.work,
        walked_on a.stakes.now a.work.now g.work _ a.outcomes.now a.records.now g.store _ g.table _ g.index _ g.events _
            g.outcomes g.at g.used g.k next.result _ g.invariant.1.1 next.ensures g.invariant.0.1.1.1.1.1.0 fed left _
            (rest_back g.events _ g.used),
      ),
    )

pub returns : goal.returns
returns c =
    let g = c.loop-at in
    walked_all _ _ _ _ _ _ _ _ _ _ _ _ _ g.invariant.1.1 (omega (arith, c.loop-at-test.false))
    (omega (
      arith,
      g.invariant.1.1.many,
      g.invariant.0,
      c.requires.room,
    ))
