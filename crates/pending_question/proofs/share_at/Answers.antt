use mathlib.Core.Path.{◌≡◌, sym, ap, ◌∙◌}
use Prim.Native.Nat.{◌<◌}
use lib.ListN.{length}
use Rattle.record_shared_ranges.proofs.Walk.{placed_index}
use Rattle.record_spec.specs.Block.{is_share}
use native.Mathlib.Omega.{arith}
use Rattle.record_spec.specs.Record.{block_in}
use Rattle.pending_question.proofs.Offsets.{share_there, share_past, placed_next}
use Rattle.pending_question.proofs.share_at.Goals as goal

pub returns-then-count-o : goal.returns-then-count-o
returns-then-count-o c = let o = c in (sym (share_past _ _ (omega (arith, c.statement_count-count.ensures, c.if-count-o.true))), o.requires.1)

pub loop-cursor-init : goal.loop-cursor-init
loop-cursor-init c = c.requires.1

pub next_statement-found-requires : goal.next_statement-found-requires
next_statement-found-requires c =
    let l = c in (
      l.requires.0,
      (
        l.loop-cursor.invariant.right,
        omega
            (arith, l.loop-cursor.invariant.before, l.statement_count-count.ensures, l.if-count-o.false, c.loop-cursor-test.true),
      ),
    )

pub loop-cursor-smaller : goal.loop-cursor-smaller
loop-cursor-smaller c =
    let n = c in
    let l = n in
    omega (arith, placed_index _ _ _ n.next_statement-found.ensures.1.0, n.loop-cursor-test.true)

pub loop-cursor-preserved : goal.loop-cursor-preserved
loop-cursor-preserved c =
    let n = c in
    let l = n in
    placed_next _ _ l.loop-cursor.cursor _ l.loop-cursor.invariant n.loop-cursor-test.true
    (omega (arith, l.loop-cursor.invariant.before, l.statement_count-count.ensures, l.if-count-o.false, n.loop-cursor-test.true))
    n.next_statement-found.ensures.1.0

pub next_statement-found-requires-2 : goal.next_statement-found-requires-2
next_statement-found-requires-2 c =
    let l = c in (
      l.requires.0,
      (
        l.loop-cursor.invariant.right,
        omega
            (arith, l.loop-cursor.invariant.before, l.statement_count-count.ensures, l.if-count-o.false),
      ),
    )

pub returns : goal.returns
returns c =
    let l = c in
    let s = l.args.rec.now in
    let here : l.loop-cursor.cursor.index ≡ l.args.o = omega (arith, l.loop-cursor.invariant.before, c.loop-cursor-test.false) in
    let inside : l.args.o < length (block_in s).statements = omega
    (arith, l.statement_count-count.ensures, l.if-count-o.false) in
    (c.is_share-share.ensures s ∙ ap is_share c.next_statement-found-2.ensures.0 ∙ rw here (sym (share_there (block_in s) _ inside)), l.loop-cursor.invariant)
