use mathlib.Core.Path.{◌≡◌, refl, ap, ◌∙◌}
use Prim.Native.Nat.{suc, ◌+◌, ◌<◌}
use native.Mathlib.Omega.{arith}
use lib.ListN.{length, get_or, drop}
use Rattle.record_spec.specs.Block.{is_share}
use Rattle.record_spec.specs.Record.{block_in, no_statement}
use Rattle.record_cursor.specs.Cursor.{cursor_at}
use Rattle.record_shared_ranges.specs.Step.{leading}
use Rattle.record_shared_ranges.proofs.Walk.{placed_index, placed, kind_same, kind_other, leading_on, leading_stop, leading_end}
use Rattle.record_shared_ranges.proofs.skip_statements.Goals as goal

pub loop-cursor-init : goal.loop-cursor-init
loop-cursor-init c = let o = c in (o.requires.1.0, (o.requires.1.1, refl))

pub next_statement-found-requires : goal.next_statement-found-requires
next_statement-found-requires c =
    let l = c in
    (l.requires.0, (l.loop-cursor.invariant.0, omega (arith, l.statement_count-count.ensures, c.loop-cursor-test.true)))

pub returns-then-is_share-shares : goal.returns-then-is_share-shares
returns-then-is_share-shares c =
    let n = c in
    let l = n in
    let o = l in
    let s = o.args.rec.now in
    let ss = (block_in s).statements in
    let i = l.loop-cursor.cursor.index in
    let other = kind_other o.args.shares c.is_share.result (get_or ss i no_statement)
    (c.is_share.ensures s ∙ ap is_share n.next_statement-found.ensures.0) c.if-is_share-shares.true in
    let stop = leading_stop o.args.shares ss i (omega (arith, l.statement_count-count.ensures, n.loop-cursor-test.true)) other in
    l.loop-cursor.invariant.0 ∙ ap (cursor_at s) (omega (arith, l.loop-cursor.invariant.1.1, stop))

pub loop-cursor-smaller : goal.loop-cursor-smaller
loop-cursor-smaller c =
    let n = c in
    let l = n in
    let r = l.args.rec.now in
    omega (
      arith,
      placed_index r n.next_statement-found.result.next (l.loop-cursor.cursor.index + 1) n.next_statement-found.ensures.1.0,
      l.statement_count-count.ensures,
      n.loop-cursor-test.true,
    )

pub loop-cursor-preserved : goal.loop-cursor-preserved
loop-cursor-preserved c =
    let n = c in
    let l = n in
    let o = l in
    let s = o.args.rec.now in
    let ss = (block_in s).statements in
    let i = l.loop-cursor.cursor.index in
    let next = n.next_statement-found.result.next in
    let index = placed_index s next (i + 1) n.next_statement-found.ensures.1.0 in
    let inside : i < length ss = omega (arith, l.statement_count-count.ensures, n.loop-cursor-test.true) in
    let same = kind_same o.args.shares c.is_share.result (get_or ss i no_statement)
    (c.is_share.ensures s ∙ ap is_share n.next_statement-found.ensures.0) c.if-is_share-shares.false in
    let on : leading o.args.shares (drop i ss) ≡ suc (leading o.args.shares (drop next.index ss)) = rw index
    (leading_on o.args.shares ss i inside same) in
    (placed s next (i + 1) n.next_statement-found.ensures.1.0, (omega (arith, index, inside), omega (arith, l.loop-cursor.invariant.1.1, on, index)))

pub returns : goal.returns
returns c =
    let l = c in
    let o = l in
    let s = o.args.rec.now in
    let ss = (block_in s).statements in
    let i = l.loop-cursor.cursor.index in
    let end = leading_end o.args.shares ss i (omega (arith, l.statement_count-count.ensures, c.loop-cursor-test.false)) in
    l.loop-cursor.invariant.0 ∙ ap (cursor_at s) (omega (arith, l.loop-cursor.invariant.1.1, end))
