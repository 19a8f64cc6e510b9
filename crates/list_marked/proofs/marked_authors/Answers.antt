use mathlib.Core.Path.{◌≡◌}
use native.Mathlib.Omega.{arith}
use lib.ListN.{length}
use borrow.Author.Tests.{ne_eqb}
use Rattle.final_block_votes.specs.Walk.{block_at_place}
use Rattle.final_block_votes.proofs.Sorting.{place_entry, place_author}
use Rattle.list_marked.specs.Marked.{MarkedIn}
use Rattle.list_marked.proofs.Showing.{marked_in_more, marked_in_none}
use Rattle.list_marked.proofs.marked_authors.Goals as goal

pub loop-k-init : goal.loop-k-init
unfolding MarkedIn
loop-k-init c = (omega arith, λ k h e. absurd (omega arith))

pub bounds-marks-k : goal.bounds-marks-k
bounds-marks-k c = omega (
  arith,
  c.loop-k-test.true,
  c.requires.1.0,
  c.requires.1.1,
)

pub loop-k-smaller-then-marks-k-ne1 : goal.loop-k-smaller-then-marks-k-ne1
loop-k-smaller-then-marks-k-ne1 c = omega (arith, c.loop-k-test.true)

pub loop-k-preserved-then-marks-k-ne1 : goal.loop-k-preserved-then-marks-k-ne1
loop-k-preserved-then-marks-k-ne1 c = let a = c.args in (
  omega (arith, c.loop-k-test.true),
  marked_in_none a.store.now a.order.now a.marks.now c.loop-k.k
      c.loop-k.authors c.loop-k.invariant.1 (ne_eqb _ 1 c.if-marks-k-ne1.true),
)

pub bounds-order-k : goal.bounds-order-k
bounds-order-k c = omega (arith, c.loop-k-test.true)

pub author_at-author-requires : goal.author_at-author-requires
author_at-author-requires c = let a = c.args in
    place_entry a.store.now a.order.now c.requires.0
    c.loop-k.k c.loop-k-test.true

pub insert-authors-requires : goal.insert-authors-requires
unfolding block_at_place
insert-authors-requires c = let a = c.args in
    omega (
      arith,
      c.author_at-author.ensures,
      place_author a.store.now a.order.now
          c.requires.0 c.loop-k.k
          c.loop-k-test.true,
    )

pub loop-k-smaller : goal.loop-k-smaller
loop-k-smaller c = omega (arith, c.loop-k-test.true)

pub loop-k-preserved : goal.loop-k-preserved
unfolding block_at_place
loop-k-preserved c = let a = c.args in (
  omega (arith, c.loop-k-test.true),
  rw (c.insert-authors.ensures, c.author_at-author.ensures)
      (marked_in_more a.store.now a.order.now a.marks.now c.loop-k.k
      c.loop-k.authors c.loop-k.invariant.1),
)

pub returns : goal.returns
returns c = let e : c.loop-k.k ≡ length c.args.order.now = omega
    (arith, c.loop-k-test.false, c.loop-k.invariant.0) in
    rw e at c.loop-k.invariant.1
