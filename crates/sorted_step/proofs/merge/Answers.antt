use borrow.Author.Tests.{not-false, not-true}
use mathlib.Core.Path.{sym, ap, ◌∙◌}
use native.Mathlib.Omega.{arith}
use Rattle.index_spec.specs.Runs.{Run, run}
use Rattle.index_runs.specs.Values.{as_run}
use Rattle.committee_quorum.specs.Sure.{Sure}
use Rattle.sorted_step.proofs.Merges.{found_side, merges_start, merges_out, merges_end, merges_past, merges_before, merges_few, merges_grows}
use Rattle.sorted_step.proofs.Merges.{merges_room}
use Rattle.sorted_step.proofs.merge.Goals as goal

pub bounds-part-0 : goal.bounds-part-0
bounds-part-0 c = omega (arith, c.requires.1.0.1.long)

pub loop-i-init : goal.loop-i-init
loop-i-init c =
    let a = c.args in
    (c.nobody-last.ensures a.stakes.now, merges_start a.stakes.now a.author.0 a.part.now a.locators.now a.replies.now)

pub shape_of-replies-then-j-m : goal.shape_of-replies-then-j-m
shape_of-replies-then-j-m c = c.loop-i.invariant.1.merging.long

pub returns-then-j-m : goal.returns-then-j-m
returns-then-j-m c =
    let a = c.args in
    let k = c.requires in
    let g = c.loop-i in
    let w = k.1.1.0.whole in
    λ b u v. merges_out a.stakes.now a.author.0 a.part.now a.locators.now a.replies.now k.1.0.1 k.1.1.0 k.1.1.1
    g.replies g.i g.j g.invariant.1 (omega (arith, c.if-j-m.true)) b (record { unmarked = u; by = v })

pub read_run-run-requires : goal.read_run-run-requires
read_run-run-requires c =
    let a = c.args in
    let k = c.requires in
    let g = c.loop-i in
    let w = k.1.1.0.whole in
    omega (arith, k.1.0.1.long, c.if-j-m.false, g.invariant.1.counted)

pub overflow_mul-i : goal.overflow_mul-i
overflow_mul-i c =
    let a = c.args in
    let k = c.requires in
    let g = c.loop-i in
    let w = k.1.1.0.whole in
    omega (arith, c.loop-i-test.true, w, c.well_formed)

pub read_locator-locator-requires : goal.read_locator-locator-requires
read_locator-locator-requires c =
    let a = c.args in
    let k = c.requires in
    let g = c.loop-i in
    let w = k.1.1.0.whole in
    omega (arith, c.loop-i-test.true, w)

pub overflow_add-j-in-Past : goal.overflow_add-j-in-Past
overflow_add-j-in-Past c = omega (
  arith,
  c.if-j-m.false,
  c.loop-i.invariant.1.counted,
  c.shared_slice_known-4-1.given 0,
)

pub loop-i-preserved-in-Past : goal.loop-i-preserved-in-Past
unfolding as_run run
loop-i-preserved-in-Past c =
    let a = c.args in
    let k = c.requires in
    let g = c.loop-i in
    let w = k.1.1.0.whole in (
      g.invariant.0,
      merges_past a.stakes.now a.author.0 a.part.now a.locators.now a.replies.now k.1.0.1 k.1.1.0 k.1.1.1
          g.replies g.i g.j g.invariant.1 (omega (arith, c.loop-i-test.true, g.invariant.1.listed, w))
          (omega (arith, c.if-j-m.false, g.invariant.1.counted))
          (found_side c.side_of-stands.ensures c.read_run-run.ensures
          c.read_locator-locator.ensures c.in-Past.is),
    )

pub overflow_add-i : goal.overflow_add-i
overflow_add-i c = omega (
  arith,
  c.loop-i-test.true,
  c.well_formed,
)

pub loop-i-preserved-in-Before : goal.loop-i-preserved-in-Before
unfolding as_run run
loop-i-preserved-in-Before c =
    let a = c.args in
    let k = c.requires in
    let g = c.loop-i in
    let w = k.1.1.0.whole in (
      g.invariant.0,
      merges_before a.stakes.now a.author.0 a.part.now a.locators.now a.replies.now k.1.0.1 k.1.1.0 k.1.1.1
          g.replies g.i g.j g.invariant.1 (omega (arith, c.loop-i-test.true, g.invariant.1.listed, w))
          (omega (arith, c.if-j-m.false, g.invariant.1.counted))
          (found_side c.side_of-stands.ensures c.read_run-run.ensures
          c.read_locator-locator.ensures c.in-Before.is),
    )

pub overflow_add-i-in-Inside : goal.overflow_add-i-in-Inside
overflow_add-i-in-Inside c = omega (
  arith,
  c.loop-i-test.true,
  c.well_formed,
)

pub check-last-requires : goal.check-last-requires
check-last-requires c =
    let a = c.args in
    let k = c.requires in
    let g = c.loop-i in
    let w = k.1.1.0.whole in
    (k.0, g.invariant.0)

pub loop-i-preserved-then-not-last : goal.loop-i-preserved-then-not-last
unfolding as_run run Sure
loop-i-preserved-then-not-last c =
    let a = c.args in
    let k = c.requires in
    let g = c.loop-i in
    let w = k.1.1.0.whole in
    let e = c.check-last.ensures in (
      e.1,
      merges_few a.stakes.now a.author.0 a.part.now a.locators.now a.replies.now k.1.0.1 k.1.1.0 k.1.1.1 g.replies
          g.i g.j g.invariant.1 (omega (
            arith,
            c.loop-i-test.true,
            g.invariant.1.listed,
            w,
          )) (omega (arith, c.if-j-m.false, g.invariant.1.counted)) _
          (e.0 ∙ ap (λ (x : Run). x.votes) c.read_run-run.ensures)
          (found_side c.side_of-stands.ensures
          c.read_run-run.ensures
          c.read_locator-locator.ensures c.in-Inside.is)
          (sym e.1 ∙ not-true _ c.if-not-last.true),
    )

pub add_author-requires : goal.add_author-requires
add_author-requires c =
    let a = c.args in
    let k = c.requires in
    let g = c.loop-i in
    let w = k.1.1.0.whole in
    let r = merges_room a.stakes.now a.author.0 a.part.now a.locators.now a.replies.now k.1.0.1 k.1.1.0 k.1.1.1
    g.replies g.i g.j g.invariant.1 (omega (
      arith,
      c.loop-i-test.true,
      g.invariant.1.listed,
      w,
    )) in
    (k.0, ((k.1.0.0, r.0), r.1))

pub loop-i-preserved : goal.loop-i-preserved
unfolding as_run run Sure
loop-i-preserved c =
    let a = c.args in
    let k = c.requires in
    let g = c.loop-i in
    let w = k.1.1.0.whole in
    let e = c.check-last.ensures in (
      e.1,
      rw c.add_author.ensures (merges_grows a.stakes.now a.author.0 a.part.now a.locators.now a.replies.now
          k.1.0.1 k.1.1.0 k.1.1.1 g.replies g.i g.j g.invariant.1
          (omega (
            arith,
            c.loop-i-test.true,
            g.invariant.1.listed,
            w,
          )) (omega (
            arith,
            c.if-j-m.false,
            g.invariant.1.counted,
          )) _ (e.0 ∙ ap (λ (x : Run). x.votes) c.read_run-run.ensures) (found_side c.side_of-stands.ensures
          c.read_run-run.ensures
          c.read_locator-locator.ensures
          c.in-Inside.is)
          (sym e.1 ∙ not-false _ c.if-not-last.false)),
    )

pub shape_of-replies : goal.shape_of-replies
shape_of-replies c = c.loop-i.invariant.1.merging.long

pub returns : goal.returns
returns c =
    let a = c.args in
    let k = c.requires in
    let g = c.loop-i in
    let w = k.1.1.0.whole in
    λ b u v. merges_end a.stakes.now a.author.0 a.part.now a.locators.now a.replies.now k.1.0.1 k.1.1.0 k.1.1.1
    g.replies g.i g.j g.invariant.1 (omega (arith, c.loop-i-test.false, w)) b (record { unmarked = u; by = v })
