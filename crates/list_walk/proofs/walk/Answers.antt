use mathlib.Core.Path.{◌≡◌, refl, sym, ap, ◌∙◌}
use mathlib.Core.Bool.{false}
use mathlib.Core.List.{map}
use Prim.Native.Nat.{◌+◌}
use native.Mathlib.Omega.{arith}
use lib.ListN.{length}
use Rattle.committee_set.specs.AuthoritySet.{AuthoritySet}
use Rattle.record_spec.specs.Reference.{TransactionLocator}
use Rattle.types.specs.Values.{as_reference}
use Rattle.final_spec.specs.Voters.{own_vote, unions, spoken}
use Rattle.final_spec.specs.Finality.{blocks_of}
use Rattle.final_readings_spec.specs.Readings.{certifies_in, certifiers_in}
use Rattle.final_readings_spec.specs.Finality.{certifying_positions_in}
use Rattle.final_block_votes.specs.Walk.{block_at_place}
use Rattle.final_block_votes.proofs.Sorting.{some_committee, place_entry, place_author}
use Rattle.final_voters.specs.Walk.{spoken_at}
use Rattle.final_certifying.proofs.Finding.{found, found_all, authors_all}
use Rattle.list_includes_spec.specs.Places.{set_at}
use Rattle.list_include_sets.proofs.Gathering.{said_next, below_right}
use Rattle.list_ancestry.specs.Heard.{Owned}
use Rattle.list_ancestry.proofs.Spreading.{all_heard, heard_more}
use Rattle.list_walk.specs.Walk.{any_noted, counted, Certify, Flags, CertifyMarked}
use Rattle.list_walk.proofs.Walking.{going_more, walking_no, walking_yes}
use Rattle.list_walk.proofs.Beginning.{quiet_heard, quiet_said, quiet_walking}
use Rattle.list_walk.proofs.walk.Goals as goal

pub skip-first-requires : goal.skip-first-requires
skip-first-requires c = (
  omega (
    arith,
    c.requires.0.0.1,
    c.requires.1.0.0,
  ),
  omega (
    arith,
    c.requires.0.0.1,
    c.requires.0.1,
  ),
)

pub loop-k-init : goal.loop-k-init
loop-k-init c = let a = c.args in
    let p = c.requires in
    let o = some_committee p.0.0.0.0 in
    let z = c.skip-first.ensures in
    rw (c.new-authors.ensures, c.new-below.ensures) (
      record {
        inside = z.inside;
        few = omega arith;
        long = refl;
        wide = z.long ∙ p.0.1;
        sure = c.nobody-checked.ensures
            a.stakes.now;
      },
      (
        λ l w. (
          quiet_heard a.store.now a.order.now o l a.own.now w a.sets.now p.1.0.1 c.skip-first.result z.inside
              z.unmarked,
          quiet_said a.store.now a.order.now o l a.own.now w a.sets.now p.1.0.1 c.skip-first.result
              z.inside z.unmarked,
        ),
        λ reading l w q. quiet_walking a.store.now a.order.now o l a.own.now w a.sets.now p.1.0.1 c.skip-first.result
            z.inside z.unmarked (any_noted a.rejecters.now) reading a.stakes.now a.rejecters.now q _ z.zeros,
      ),
    )

pub slice_bounds-below_at-end : goal.slice_bounds-below_at-end
slice_bounds-below_at-end c = sym c.loop-k.invariant.0.long

pub below_at-below-requires : goal.below_at-below-requires
below_at-below-requires c = (
  omega (
    arith,
    c.loop-k-test.true,
    c.requires.0.0.1,
    c.requires.1.0.1.room,
  ),
  c.loop-k.invariant.0.long,
)

pub offset_bounds-own-k : goal.offset_bounds-own-k
offset_bounds-own-k c = omega (
  arith,
  c.loop-k-test.true,
  c.requires.0.0.1,
)

pub bounds-own-k : goal.bounds-own-k
bounds-own-k c = omega (
  arith,
  c.loop-k-test.true,
  c.requires.0.0.1,
  c.requires.1.0.0,
)

pub with_own-voters-requires : goal.with_own-voters-requires
unfolding block_at_place
with_own-voters-requires c = let a = c.args in
    let o = some_committee c.requires.0.0.0.0 in (
      place_entry a.store.now a.order.now o c.loop-k.k c.loop-k-test.true,
      place_author a.store.now a.order.now o c.loop-k.k
          c.loop-k-test.true,
    )

pub slice_bounds-note_set-end : goal.slice_bounds-note_set-end
slice_bounds-note_set-end c = sym c.loop-k.invariant.0.long

pub note_set-requires : goal.note_set-requires
note_set-requires c = omega (
  arith,
  c.loop-k-test.true,
  c.requires.0.0.1,
  c.loop-k.invariant.0.long,
)

pub counted_at-requires : goal.counted_at-requires
counted_at-requires c = let p = c.requires in
    let h = c.loop-k-test.true in
    (omega (arith, h, p.0.0.1), λ e. let n = p.1.1 e in omega (arith, h, p.0.0.1))

pub check-checked-requires : goal.check-checked-requires
check-checked-requires c = let p = c.requires in
    ((p.0.0.0.0.sound, p.0.0.0.1), c.loop-k.invariant.0.sure)

pub certifies_at-yes-requires : goal.certifies_at-yes-requires
certifies_at-yes-requires c = let a = c.args in place_entry a.store.now a.order.now
    (some_committee c.requires.0.0.0.0)
    c.loop-k.k
    c.loop-k-test.true

pub offset_bounds-certified-k : goal.offset_bounds-certified-k
offset_bounds-certified-k c = omega (
  arith,
  c.loop-k-test.true,
  c.requires.0.0.1,
)

pub bounds-certified-k : goal.bounds-certified-k
bounds-certified-k c = omega (
  arith,
  c.loop-k-test.true,
  c.requires.0.0.1,
  c.loop-k.invariant.0.wide,
)

pub loop-k-smaller-then-not-yes : goal.loop-k-smaller-then-not-yes
loop-k-smaller-then-not-yes c = omega (arith, c.loop-k-test.true)

pub loop-k-preserved-then-not-yes : goal.loop-k-preserved-then-not-yes
unfolding block_at_place
loop-k-preserved-then-not-yes c = let a = c.args in
    let g = c.loop-k in
    let h = c.loop-k-test.true in
    let p = c.requires in
    let o = some_committee p.0.0.0.0 in
    let z = c.check-checked.ensures in
    let v = c.with_own-voters.result in
    let said : (l : TransactionLocator) → Owned false a.store.now a.order.now l a.own.now → c.below_at-below.result ≡ unions
    (map (spoken own_vote (blocks_of a.store.now) l) (block_at_place a.store.now a.order.now g.k).includes) =
    λ l w. c.below_at-below.ensures ∙ below_right a.store.now a.order.now
    o own_vote l g.memo a.sets.now p.1.0.1 g.k h (g.invariant.1.0 l w).0 g.below (g.invariant.1.0 l w).1 in
    let heard : (l : TransactionLocator) → Owned false a.store.now a.order.now l a.own.now → v ≡ spoken_at own_vote a.store.now a.order.now
    l g.k =
    λ l w. c.with_own-voters.ensures ∙ all_heard false a.store.now a.order.now o l g.k h
    a.own.now w c.below_at-below.result (said l w) in
    let q = sym c.certifies_at-yes.ensures ∙ c.if-not-yes.true in
    let x : c.flag.result ≡ 0 = rw (c.if-not-yes.true) at c.flag.ensures in
    rw (c.note_set.ensures, x) (
      going_more a.stakes.now a.order.now g.memo g.certified g.blocks g.checked g.k g.invariant.0 h v
          c.check-checked.result z.1 g.blocks (omega (arith, g.invariant.0.few)) 0,
      (
        λ l w. (
          heard_more false a.store.now a.order.now l g.memo g.k (g.invariant.1.0 l w).0 (omega (arith, h, g.invariant.0.long, p.0.0.1)) v
              (heard l w),
          said_next own_vote a.store.now a.order.now l g.k
              c.below_at-below.result (said l w),
        ),
        λ reading l w r. walking_no reading a.stakes.now a.store.now l a.order.now g.certified g.authors g.blocks g.k
            (g.invariant.1.1 reading l w r) h (omega (arith, h, g.invariant.0.wide, p.0.0.1)) c.counted_at.result
            (c.counted_at.ensures ∙ ap
            (λ (y : AuthoritySet). counted (any_noted a.rejecters.now) y (set_at a.rejecters.now g.k)) (heard l w) ∙ r g.k h)
            c.check-checked.result z.0 z.1 q,
      ),
    )

pub overflow_add-blocks : goal.overflow_add-blocks
overflow_add-blocks c = omega (
  arith,
  c.loop-k.invariant.0.few,
  c.loop-k-test.true,
  c.requires.0.0.1,
)

pub author_at-author-requires : goal.author_at-author-requires
author_at-author-requires c = let a = c.args in place_entry a.store.now
    a.order.now (some_committee c.requires.0.0.0.0)
    c.loop-k.k
    c.loop-k-test.true

pub insert-authors-requires : goal.insert-authors-requires
unfolding as_reference block_at_place
insert-authors-requires c = let a = c.args in rw
    c.author_at-author.ensures (place_author a.store.now a.order.now
    (some_committee c.requires.0.0.0.0)
    c.loop-k.k
    c.loop-k-test.true)

pub loop-k-smaller : goal.loop-k-smaller
loop-k-smaller c = omega (
  arith,
  c.loop-k-test.true,
)

pub loop-k-preserved : goal.loop-k-preserved
unfolding as_reference block_at_place
loop-k-preserved c = let a = c.args in
    let g = c.loop-k in
    let h = c.loop-k-test.true in
    let p = c.requires in
    let o = some_committee p.0.0.0.0 in
    let z = c.check-checked.ensures in
    let v = c.with_own-voters.result in
    let said : (l : TransactionLocator) → Owned false a.store.now a.order.now l a.own.now → c.below_at-below.result ≡ unions
    (map (spoken own_vote (blocks_of a.store.now) l) (block_at_place a.store.now a.order.now g.k).includes) =
    λ l w. c.below_at-below.ensures ∙ below_right a.store.now
    a.order.now o own_vote l g.memo a.sets.now p.1.0.1 g.k h (g.invariant.1.0 l w).0 g.below (g.invariant.1.0 l w).1 in
    let heard : (l : TransactionLocator) → Owned false a.store.now a.order.now l a.own.now → v ≡ spoken_at own_vote a.store.now a.order.now
    l g.k =
    λ l w. c.with_own-voters.ensures ∙ all_heard false a.store.now
    a.order.now o l g.k h a.own.now w c.below_at-below.result (said l w) in
    let q = sym c.certifies_at-yes.ensures ∙ c.if-not-yes.false in
    let x : c.flag.result ≡ 1 = rw (c.if-not-yes.false) at c.flag.ensures in
    rw (c.note_set.ensures, x, c.insert-authors.ensures, c.author_at-author.ensures) (
      going_more a.stakes.now a.order.now g.memo g.certified g.blocks g.checked g.k g.invariant.0 h v
          c.check-checked.result z.1 (g.blocks + 1) (omega (arith, g.invariant.0.few)) 1,
      (
        λ l w. (
          heard_more false a.store.now a.order.now l g.memo g.k (g.invariant.1.0 l w).0 (omega (arith, h, g.invariant.0.long, p.0.0.1)) v
              (heard l w),
          said_next own_vote a.store.now a.order.now l g.k
              c.below_at-below.result (said l w),
        ),
        λ reading l w r. walking_yes reading a.stakes.now a.store.now l a.order.now g.certified g.authors g.blocks g.k
            (g.invariant.1.1 reading l w r) h (omega (arith, h, g.invariant.0.wide, p.0.0.1))
            c.counted_at.result
            (c.counted_at.ensures ∙ ap
            (λ (y : AuthoritySet). counted (any_noted a.rejecters.now) y (set_at a.rejecters.now g.k)) (heard l w) ∙ r g.k h)
            c.check-checked.result z.0 z.1 q (place_author a.store.now a.order.now o g.k h),
      ),
    )

pub shape_of-certified : goal.shape_of-certified
shape_of-certified c = c.loop-k.invariant.0.wide ∙ sym c.requires.0.1

pub returns : goal.returns
unfolding CertifyMarked Certify Flags certifying_positions_in certifiers_in block_at_place
returns c = let a = c.args in
    let g = c.loop-k in
    let o = c.requires.0.0.0.0
    in
    let e : g.k ≡ length a.order.now = omega (arith, g.invariant.0.inside, c.loop-k-test.false) in
    λ reading l w r.
    let x = g.invariant.1.1 reading l w r in
    let test = certifies_in reading a.stakes.now (blocks_of a.store.now) l in
    let f = ap (found test a.store.now a.order.now) e ∙ found_all test a.store.now a.stakes.now a.order.now o in (
      (x.many ∙ ap length f, authors_all a.stakes.now a.store.now a.order.now o test g.authors (rw e at x.authored)),
      λ j h. x.flagged j
          (omega (arith, h, e)),
    )
