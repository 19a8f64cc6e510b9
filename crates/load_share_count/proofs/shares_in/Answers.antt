use mathlib.Core.Path.{◌≡◌, sym, ap, ◌∙◌}
use mathlib.Core.Bool.{true, false}
use mathlib.Core.List.{[], ◌∷◌}
use Prim.Native.Nat.{ℕ, ◌+◌, ◌<◌}
use native.Mathlib.Omega.{arith}
use lib.ListN.{length, length-append}
use Rattle.base.proofs.Le.{bytes_of}
use Rattle.record_spec.specs.Reference.{locator}
use Rattle.record_spec.specs.Block.{is_share_at}
use Rattle.record_spec.specs.Record.{block_in}
use Rattle.record_cursor.specs.Cursor.{cursor_at}
use Rattle.record_statement.specs.Values.{as_statement}
use Rattle.record_cursor.specs.declared.StatementCursor.{StatementCursor}
use Rattle.load_share_count.specs.Through.{shares_below}
use Rattle.load_share_count.proofs.Through.{below_none, below_all, below_share, below_other}
use Rattle.load_share_count.proofs.Statements.{share_here, few_statements_lem}
use Rattle.load_share_count.proofs.shares_in.Goals as goal

pub loop-cursor-init : goal.loop-cursor-init
unfolding cursor_at
loop-cursor-init c =
    let rec = c.args.rec.now in
    let b = block_in rec in
    let e = c.first_statement-cursor.ensures in
    let i : c.first_statement-cursor.result.index ≡ 0 = ap (λ (x : StatementCursor). x.index) e in
    (e ∙ ap (cursor_at rec) (sym i), omega arith, sym (ap (λ (j : ℕ). length (shares_below b j)) i ∙ ap length (below_none b)), omega arith)

pub next_statement-next-requires : goal.next_statement-next-requires
next_statement-next-requires c =
    let l = c.loop-cursor in
    (c.requires, (l.invariant.0, omega (arith, c.statement_count-count.ensures)))

pub overflow_add-n : goal.overflow_add-n
overflow_add-n c = omega (arith, c.loop-cursor.invariant.3, c.loop-cursor-test.true)

pub loop-cursor-smaller-then-is_share : goal.loop-cursor-smaller-then-is_share
unfolding cursor_at
loop-cursor-smaller-then-is_share c = omega (arith, ap (λ (x : StatementCursor). x.index) c.next_statement-next.ensures.1.0)

pub loop-cursor-preserved-then-is_share : goal.loop-cursor-preserved-then-is_share
unfolding cursor_at
loop-cursor-preserved-then-is_share c =
    let rec = c.args.rec.now in
    let b = block_in rec in
    let l = c.loop-cursor in
    let e = c.next_statement-next.ensures in
    let i : c.next_statement-next.result.next.index ≡ l.cursor.index + 1 = ap (λ (x : StatementCursor). x.index) e.1.0 in
    let few : l.cursor.index < length b.statements = omega (
      arith,
      c.statement_count-count.ensures,
    ) in
    let is : is_share_at b l.cursor.index ≡ true = share_here b l.cursor.index
    (as_statement rec c.next_statement-next.result.statement) few e.0 ∙ sym (c.is_share.ensures rec) ∙ c.if-is_share.true in
    let more = ap length (below_share b l.cursor.index is) in (
      e.1.0 ∙ ap (cursor_at rec) (sym i),
      omega (arith, few, i),
      omega (
        arith,
        ap (λ (j : ℕ). length (shares_below b j)) i,
        more,
        length-append (shares_below b l.cursor.index)
            (locator b.reference l.cursor.index ∷ []),
        l.invariant.2,
      ),
      omega (arith, i, l.invariant.3),
    )

pub loop-cursor-smaller : goal.loop-cursor-smaller
unfolding cursor_at
loop-cursor-smaller c = omega (arith, ap (λ (x : StatementCursor). x.index) c.next_statement-next.ensures.1.0)

pub loop-cursor-preserved : goal.loop-cursor-preserved
unfolding cursor_at
loop-cursor-preserved c =
    let rec = c.args.rec.now in
    let b = block_in rec in
    let l = c.loop-cursor in
    let e = c.next_statement-next.ensures in
    let i : c.next_statement-next.result.next.index ≡ l.cursor.index + 1 = ap (λ (x : StatementCursor). x.index) e.1.0 in
    let few : l.cursor.index < length b.statements = omega (
      arith,
      c.statement_count-count.ensures,
    ) in
    let is : is_share_at b l.cursor.index ≡ false = share_here b l.cursor.index
    (as_statement rec c.next_statement-next.result.statement) few e.0 ∙ sym (c.is_share.ensures rec) ∙ c.if-is_share.false in (
      e.1.0 ∙ ap (cursor_at rec) (sym i),
      omega (arith, few, i),
      l.invariant.2 ∙ sym (ap (λ (j : ℕ). length (shares_below b j)) i ∙ ap length (below_other b l.cursor.index is)),
      omega (arith, i, l.invariant.3),
    )

pub returns : goal.returns
returns c =
    let rec = c.args.rec.now in
    let b = block_in rec in
    let l = c.loop-cursor in
    let all : l.cursor.index ≡ length b.statements = omega (arith, c.statement_count-count.ensures, l.invariant.1) in
    let few = few_statements_lem rec (bytes_of rec (λ j h. omega (arith, c.shared_slice_known-1.given j)))
    c.requires in
    (l.invariant.2 ∙ ap (λ (j : ℕ). length (shares_below b j)) all ∙ ap length (below_all b), omega (arith, few, l.invariant.3, l.invariant.1))
