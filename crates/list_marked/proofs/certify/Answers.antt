use mathlib.Core.Path.{refl, sym, subst, ◌∙◌}
use mathlib.Core.Bool.{true≢false}
use native.Mathlib.Omega.{arith}
use lib.ListN.{length, take, drop, length-drop}
use lib.Seq.{length-take-le}
use Rattle.base.proofs.Le.{bytes_of}
use Rattle.final_block_votes.proofs.Sorting.{some_committee}
use Rattle.list_walk.specs.Walk.{any_noted}
use Rattle.list_ancestry.specs.Heard.{AnyMarked}
use Rattle.list_marked.proofs.Showing.{some_noted, certified_old, certified_none, certified_new}
use Rattle.list_marked.proofs.certify.Goals as goal

pub walk-requires : goal.walk-requires
unfolding any_noted
walk-requires c = let a = c.args in
    let p = c.requires in (
      (((p.sorted, p.whole), p.few), p.flagged),
      (
        (length-take-le 1024 a.marks.now (omega (arith, p.marked)), p.included),
        λ t. absurd
            (true≢false (sym t)),
      ),
    )

pub returns-then-not-wants_rejects : goal.returns-then-not-wants_rejects
unfolding any_noted
returns-then-not-wants_rejects c = let a = c.args in
    let p = c.requires in
    certified_old a.wanted a.stakes.now a.store.now a.order.now a.marks.now (some_committee p.sorted) p.few _
    c.walk.result (sym c.wants_rejects.ensures ∙ c.if-not-wants_rejects.true) _ c.walk.ensures

pub walk-requires-then-not-any_marked : goal.walk-requires-then-not-any_marked
unfolding any_noted
walk-requires-then-not-any_marked c = let a = c.args in
    let p = c.requires in (
      (((p.sorted, p.whole), p.few), p.flagged),
      (
        (length-take-le 1024 a.marks.now (omega (arith, p.marked)), p.included),
        λ t. absurd
            (true≢false (sym t)),
      ),
    )

pub returns-then-not-any_marked : goal.returns-then-not-any_marked
unfolding AnyMarked any_noted
returns-then-not-any_marked c = let a = c.args in
    let p = c.requires in
    let bytes = bytes_of a.store.now (λ j h. omega (
      arith,
      c.shared_slice_known-2-1.given j,
    )) in
    let none = subst (AnyMarked (take 1024 (drop 1024 a.marks.now)) (length a.order.now))
    (c.if-not-any_marked.true)
    c.any_marked.ensures in
    certified_none a.wanted a.stakes.now a.store.now a.order.now a.marks.now (some_committee p.sorted) p.few _
    c.walk-then-not-any_marked.result (sym c.wants_rejects.ensures ∙ c.if-not-wants_rejects.false) bytes _ none c.walk-then-not-any_marked.ensures

pub spread-requires : goal.spread-requires
spread-requires c = let a = c.args in
    let p = c.requires in (
      (some_committee p.sorted, p.few),
      (
        length-take-le 1024 (drop 1024 a.marks.now) (omega (arith, p.marked, length-drop 1024 a.marks.now)),
        (refl, p.included),
      ),
    )

pub slice_bounds-walk-end : goal.slice_bounds-walk-end
slice_bounds-walk-end c = sym c.spread.auto.memo

pub walk-requires-2 : goal.walk-requires-2
walk-requires-2 c = let a = c.args in
    let p = c.requires in (
      (((p.sorted, p.whole), p.few), p.flagged),
      (
        (length-take-le 1024 a.marks.now (omega (arith, p.marked)), p.included),
        λ t. c.spread.auto.memo,
      ),
    )

pub returns : goal.returns
returns c = let a = c.args in
    let p = c.requires in
    let bytes = bytes_of a.store.now (λ j h. omega (
      arith,
      c.shared_slice_known-2-1.given j,
    )) in
    certified_new a.wanted a.stakes.now a.store.now a.order.now a.marks.now (some_committee p.sorted) p.few _
    c.walk-2.result (sym c.wants_rejects.ensures ∙ c.if-not-wants_rejects.false) bytes _
    c.spread.ensures
    (rw (some_noted c.spread.new.memo
    c.spread.auto.memo) at c.walk-2.ensures)
