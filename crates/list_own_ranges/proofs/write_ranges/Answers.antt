use Prim.Native.Nat.{ℕ}
use mathlib.Core.Path.{◌≡◌, refl, subst}
use native.Mathlib.Omega.{arith}
use lib.ListN.{length}
use Rattle.record_spec.specs.Record.{block_in}
use Rattle.record_cursor.specs.Cursor.{cursor_at}
use Rattle.list_block_spans.specs.Answers.{OnwardIn}
use Rattle.types.specs.Values.{as_maybe}
use Rattle.list_own_ranges.specs.Own.{Roomy}
use Rattle.list_own_ranges.specs.Step.{Written}
use Rattle.list_own_ranges.proofs.Stored.{record-inside, all_later}
use Rattle.list_own_ranges.proofs.Rows.{written_start, written_more}
use Rattle.list_own_ranges.proofs.write_ranges.Goals as goal

pub statement_count-count-requires : goal.statement_count-count-requires
statement_count-count-requires c = c.requires.0.formed

pub reference-block-requires : goal.reference-block-requires
reference-block-requires c = c.requires.0.formed

pub first_statement-cursor-requires : goal.first_statement-cursor-requires
first_statement-cursor-requires c = c.requires.0.formed

pub loop-cursor-init : goal.loop-cursor-init
unfolding cursor_at
loop-cursor-init c = let a = c.args in
    rw c.first_statement-cursor.ensures (
      refl,
      (
        omega arith,
        written_start a.kind (as_maybe a.last) (as_maybe a.bound) a.store.now
            (block_in a.rec.now) a.rows.now,
      ),
    )

pub next_range-found-requires : goal.next_range-found-requires
next_range-found-requires c = let p = c.requires in
    let g = c.loop-cursor in (
      (p.0.formed, p.0.fits),
      (
        c.reference-block.ensures,
        (g.invariant.0, omega (arith, c.loop-cursor-test.true, c.statement_count-count.ensures)),
      ),
    )

pub overflow_add-start : goal.overflow_add-start
overflow_add-start c = let o = c in
    omega (arith, c.next_range-found.ensures.inside, record-inside o.args.store.now o.args.start o.args.rec.now o.requires.0, o.well_formed)

pub put_range-n-requires : goal.put_range-n-requires
unfolding Roomy
put_range-n-requires c = let g = c.loop-cursor in
    omega (
      arith,
      g.invariant.1.1.few,
      g.invariant.1.1.long,
      c.requires.1,
      c.loop-cursor-test.true,
      c.statement_count-count.ensures,
    )

pub loop-cursor-smaller : goal.loop-cursor-smaller
unfolding OnwardIn
loop-cursor-smaller c = omega (arith, c.next_range-found.ensures.onward)

pub loop-cursor-preserved : goal.loop-cursor-preserved
unfolding OnwardIn
loop-cursor-preserved c = let o = c in
    let a = o.args in
    let b = block_in a.rec.now in
    let g = c.loop-cursor in
    let w = c.next_range-found.ensures in (
      w.onward.1.1,
      (
        w.onward.1.0,
        written_more a.kind (as_maybe a.last) (as_maybe a.bound) a.store.now b a.rows.now g.rows _ g.n
            g.cursor.index _ c.next_range-found.result.next.index _ _ g.invariant.1.1 w.onward.0 w.are
            (all_later a.store.now a.start a.rec.now o.requires.0 _ _ w.stands) c.put_range-n.ensures,
      ),
    )

pub shape_of-rows : goal.shape_of-rows
shape_of-rows c = c.loop-cursor.invariant.1.1.long

pub returns : goal.returns
returns c = let a = c.args in
    let g = c.loop-cursor in
    let e : g.cursor.index ≡ length (block_in a.rec.now).statements = omega
    (arith, c.loop-cursor-test.false, c.statement_count-count.ensures, g.invariant.1.0) in
    subst (λ (i : ℕ). Written a.kind (as_maybe a.last) (as_maybe a.bound) a.store.now (block_in a.rec.now) a.rows.now g.rows g.n i) e
    g.invariant.1.1
