use mathlib.Core.Path.{sym, ◌∙◌}
use native.Mathlib.Omega.{arith}
use Rattle.final_block_votes.specs.Walk.{block_at_place}
use Rattle.final_block_votes.proofs.Sorting.{place_entry, place_author}
use Rattle.final_block_rejects.specs.Speeches.{speech_of}
use Rattle.list_include_sets.proofs.Gathering.{said_next, below_right}
use Rattle.list_ancestry.specs.Heard.{HeardMarked}
use Rattle.list_ancestry.proofs.Spreading.{going_more, all_heard, heard_more}
use Rattle.list_ancestry.proofs.spread.Goals as goal

pub loop-k-init : goal.loop-k-init
loop-k-init c = (
  record { inside = omega arith; long = c.requires.1.1.0 },
  λ rejecting l w.
      (λ j m. absurd (omega arith), λ j q. absurd (omega arith)),
)

pub below_at-below-requires : goal.below_at-below-requires
below_at-below-requires c = let g = c.loop-k in (
  omega (
    arith,
    c.loop-k-test.true,
    c.requires.0.1,
    c.requires.1.1.1.room,
  ),
  g.invariant.0.long,
)

pub offset_bounds-own-k : goal.offset_bounds-own-k
offset_bounds-own-k c = omega (
  arith,
  c.loop-k-test.true,
  c.requires.0.1,
)

pub bounds-own-k : goal.bounds-own-k
bounds-own-k c = omega (
  arith,
  c.loop-k-test.true,
  c.requires.0.1,
  c.requires.1.0,
)

pub with_own-who-requires : goal.with_own-who-requires
unfolding block_at_place
with_own-who-requires c = let a = c.args in
    let o = c.requires.0.0 in (
      place_entry a.store.now a.order.now o c.loop-k.k c.loop-k-test.true,
      place_author a.store.now a.order.now o c.loop-k.k
          c.loop-k-test.true,
    )

pub note_set-requires : goal.note_set-requires
note_set-requires c = omega (
  arith,
  c.loop-k-test.true,
  c.requires.0.1,
  c.loop-k.invariant.0.long,
)

pub loop-k-preserved : goal.loop-k-preserved
unfolding block_at_place
loop-k-preserved c = let a = c.args in
    let p = c.requires in
    let g = c.loop-k in
    let h = c.loop-k-test.true in
    let v = c.with_own-who.result in
    rw c.note_set.ensures (
      going_more a.order.now g.memo g.k g.invariant.0 h v,
      λ rejecting l w.
          let said = c.below_at-below.ensures ∙ below_right a.store.now a.order.now p.0.0
          (speech_of rejecting) l g.memo a.sets.now p.1.1.1 g.k h (g.invariant.1 rejecting l w).0 g.below (g.invariant.1 rejecting l w).1 in (
            heard_more rejecting a.store.now a.order.now l g.memo g.k (g.invariant.1 rejecting l w).0 (omega (arith, h, g.invariant.0.long, p.0.1))
                v (c.with_own-who.ensures ∙ all_heard rejecting a.store.now a.order.now p.0.0 l g.k h
                a.own.now w c.below_at-below.result said),
            said_next (speech_of rejecting) a.store.now a.order.now l g.k c.below_at-below.result said,
          ),
    )

pub shape_of-memo : goal.shape_of-memo
shape_of-memo c = c.loop-k.invariant.0.long ∙ sym c.requires.1.1.0

pub returns : goal.returns
unfolding HeardMarked
returns c = let g = c.loop-k in
    λ rejecting l w j h. (g.invariant.1 rejecting l w).0 j (omega (arith, h, g.invariant.0.inside, c.loop-k-test.false))
