use mathlib.Core.Path.{◌≡◌, ap, ◌∙◌}
use Prim.Native.Nat.{◌+◌, ◌<◌}
use native.Mathlib.Omega.{arith}
use lib.ListN.{length, get_or, drop}
use Rattle.record_spec.specs.Block.{Statement, voted_range, counted_offsets, event_room}
use Rattle.record_spec.specs.Record.{block_in, no_statement}
use Rattle.record_reader.proofs.Shape.{shape_in, statement_count}
use Rattle.record_shared_ranges.proofs.Walk.{placed_index, placed, checks_any, passes_at, counted_most, offsets_counted, counted_on, counted_end}
use Rattle.record_shared_ranges.proofs.event_words.Goals as goal

pub loop-cursor-init : goal.loop-cursor-init
loop-cursor-init c =
    let o = c in
    let r = o.args.rec.now in
    let e = c.first_statement-cursor.ensures in
    let z = placed_index r c.first_statement-cursor.result 0 e in
    (placed r c.first_statement-cursor.result 0 e, (omega (arith, z), (omega arith, rw z (omega arith))))

pub next_statement-found-requires : goal.next_statement-found-requires
next_statement-found-requires c =
    let l = c in
    (l.requires.0, (l.loop-cursor.invariant.0, omega (arith, l.statement_count-count.ensures, c.loop-cursor-test.true)))

pub counted_offsets-offsets-requires : goal.counted_offsets-offsets-requires
counted_offsets-offsets-requires c =
    let n = c in
    let l = n in
    let o = l in
    let s = o.args.rec.now in
    let ss = (block_in s).statements in
    let i = l.loop-cursor.cursor.index in
    let inside : i < length ss = omega (arith, l.statement_count-count.ensures, n.loop-cursor-test.true) in
    rw (← checks_any s n.next_statement-found.result.statement, n.next_statement-found.ensures.0) (passes_at ss i o.requires.1 inside)

pub overflow_add-offsets : goal.overflow_add-offsets
overflow_add-offsets c =
    let n = c in
    let l = n in
    let o = l in
    let s = o.args.rec.now in
    let ss = (block_in s).statements in
    let i = l.loop-cursor.cursor.index in
    let inside : i < length ss = omega (arith, l.statement_count-count.ensures, n.loop-cursor-test.true) in
    let shape = shape_in s o.requires.0 in
    let few = statement_count s (block_in s) shape in
    omega (
      arith,
      l.loop-cursor.invariant.1.1.0,
      inside,
      few,
      shape.head.statements,
      c.counted_offsets-offsets.ensures s,
      ap
          (λ (x : Statement). counted_offsets (voted_range x)) n.next_statement-found.ensures.0,
      counted_most (get_or ss i no_statement)
          (passes_at ss i o.requires.1 inside),
    )

pub loop-cursor-smaller : goal.loop-cursor-smaller
loop-cursor-smaller c =
    let n = c in
    let l = n in
    let r = l.args.rec.now in
    omega (
      arith,
      placed_index r n.next_statement-found.result.next (l.loop-cursor.cursor.index + 1) n.next_statement-found.ensures.1.0,
      l.statement_count-count.ensures,
      n.loop-cursor-test.true,
    )

pub loop-cursor-preserved : goal.loop-cursor-preserved
loop-cursor-preserved c =
    let n = c in
    let l = n in
    let o = l in
    let s = o.args.rec.now in
    let ss = (block_in s).statements in
    let i = l.loop-cursor.cursor.index in
    let inside : i < length ss = omega (arith, l.statement_count-count.ensures, n.loop-cursor-test.true) in
    let next = n.next_statement-found.result.next in
    let index = placed_index s next (i + 1) n.next_statement-found.ensures.1.0 in
    let here = c.counted_offsets-offsets.ensures s ∙ ap (λ (x : Statement). counted_offsets (voted_range x)) n.next_statement-found.ensures.0 in
    let on : offsets_counted (drop i ss) ≡ counted_offsets (voted_range (get_or ss i no_statement)) + offsets_counted (drop next.index ss) = rw index
    (counted_on ss i inside) in (
      placed s next (i + 1) n.next_statement-found.ensures.1.0,
      (
        omega (arith, index, inside),
        (
          omega (arith, index, here, l.loop-cursor.invariant.1.1.0, counted_most (get_or ss i no_statement) (passes_at ss i o.requires.1 inside)),
          omega
              (arith, here, on, l.loop-cursor.invariant.1.1.1),
        ),
      ),
    )

pub overflow_mul-result : goal.overflow_mul-result
overflow_mul-result c =
    let l = c in
    let o = l in
    let s = o.args.rec.now in
    let shape = shape_in s o.requires.0 in
    omega (arith, l.loop-cursor.invariant.1.0, l.loop-cursor.invariant.1.1.0, statement_count s (block_in s) shape, shape.head.statements)

pub returns : goal.returns
unfolding event_room offsets_counted
returns c =
    let l = c in
    let s = l.args.rec.now in
    let ss = (block_in s).statements in
    omega (
      arith,
      l.loop-cursor.invariant.1.1.1,
      counted_end ss l.loop-cursor.cursor.index
          (omega (arith, l.statement_count-count.ensures, c.loop-cursor-test.false)),
    )
