use Rattle.feed_spec.specs.Feed.{lent_of}
use Rattle.feed_many.proofs.Feeding.{ready_next}
use Rattle.feed_many.proofs.Walk.{walked_none, walked_on, rest_back, rest_whole, rest_length, word_left, walked_all}
use mathlib.Core.Path.{refl, ap, ◌∙◌}
use Prim.Native.Nat.{◌-◌, ◌<◌}
use lib.ListN.{length, drop, length-drop, length-set}
use native.Mathlib.Omega.{arith}
use borrow.Author.Rules.{rules}
use Rattle.feed_many.proofs.feed_each.Goals as goal

pub loop-at-init : goal.loop-at-init
loop-at-init c =
    let o = c in
    let a = o.args in (
      (refl, (refl, (refl, (refl, refl)))),
      (
        o.requires.0,
        walked_none a.stakes.now a.work.now a.outcomes.now a.records.now a.store.now
            a.table.now a.events.now,
      ),
    )

pub offset_bounds-outcomes-k : goal.offset_bounds-outcomes-k
offset_bounds-outcomes-k c =
    let o = c in
    let g = c.loop-at in
    let left : g.k < length g.outcomes = word_left g.invariant.1.1
    c.next_record-next.ensures
    (omega (arith, o.requires.1, g.invariant.0)) in
    omega (arith, left, g.invariant.0, o.well_formed)

pub bounds-outcomes-k : goal.bounds-outcomes-k
bounds-outcomes-k c =
    let o = c in
    let g = c.loop-at in
    let left : g.k < length g.outcomes = word_left g.invariant.1.1
    c.next_record-next.ensures
    (omega (arith, o.requires.1, g.invariant.0)) in
    search rules

pub overflow_add-used : goal.overflow_add-used
overflow_add-used c =
    let g = c.loop-at in
    let d = c.feed_next-told in
    omega (
      arith,
      d.ensures.room,
      d.auto.events,
      ap length (rest_whole g.events g.used),
      length-drop g.used g.events,
      g.invariant.1.1.room,
      g.invariant.0,
      c.well_formed,
    )

pub overflow_add-k : goal.overflow_add-k
overflow_add-k c =
    let o = c in
    let g = c.loop-at in
    let left : g.k < length g.outcomes = word_left g.invariant.1.1
    c.next_record-next.ensures
    (omega (arith, o.requires.1, g.invariant.0)) in
    omega (arith, left, g.invariant.0, o.well_formed)

pub loop-at-preserved : goal.loop-at-preserved
loop-at-preserved c =
    let o = c in
    let a = o.args in
    let g = c.loop-at in
    let next = c.next_record-next in
    let n = next.ensures in
    let d = c.feed_next-told in
    let fed = rw (rest_whole g.events g.used) at d.ensures in
    let left : g.k < length g.outcomes = word_left g.invariant.1.1 n (omega (arith, o.requires.1, g.invariant.0)) in (
      (
        search rules,
        (
          search rules,
          (
            search rules,
            (
              rest_length g.events d.new.events g.used g.invariant.1.1.room d.auto.events ∙
                  g.invariant.0.1.1.1.0,
              length-set g.outcomes g.k d.result.outcome ∙ g.invariant.0.1.1.1.1,
            ),
          ),
        ),
      ),
      (
        ready_next a.stakes.now (lent_of g.store g.table g.work (drop g.used g.events)) _ g.invariant.1.0 _ _ _ _ _ fed (search rules),
        walked_on a.stakes.now a.work.now g.work _ a.outcomes.now a.records.now g.store _ g.table _ g.events _ g.outcomes
            g.at g.used g.k next.result _ g.invariant.1.1 n (search rules) fed left _ (rest_back g.events _ g.used),
      ),
    )

pub returns : goal.returns
returns c =
    let g = c.loop-at in
    walked_all _ _ _ _ _ _ _ _ _ _ _ _ g.invariant.1.1 (omega arith)
    (omega (arith, g.invariant.1.1.many, c.requires.1))
