use mathlib.Core.Path.{refl, sym, ap, ◌∙◌}
use Prim.Native.Nat.{◌+◌, ◌<◌}
use native.Mathlib.Omega.{arith}
use lib.ListN.{length}
use Rattle.base.specs.Checks.{refusal}
use Rattle.base.proofs.Refusals.{number_not_zero}
use Rattle.std.proofs.lemmas.Result.{err_from_is_err_and}
use Rattle.record_spec.specs.Block.{Statement}
use Rattle.record_spec.specs.Record.{block_in}
use Rattle.record_spec.specs.Verify.{statement_checks}
use Rattle.record_shared_ranges.proofs.Walk.{placed_index, placed}
use Rattle.record_check_statements.proofs.Statements.{of_statements, statement_refused, statement_on, statement_end}
use Rattle.record_check_statements.proofs.statements_refusal.Goals as goal

pub loop-cursor-init : goal.loop-cursor-init
loop-cursor-init c =
    let o = c in
    let r = o.args.rec.now in
    let e = c.first_statement-cursor.ensures in
    let z = placed_index r c.first_statement-cursor.result 0 e in
    (placed r c.first_statement-cursor.result 0 e, (omega (arith, z), rw z refl))

pub next_statement-found-requires : goal.next_statement-found-requires
next_statement-found-requires c =
    let l = c in
    (l.requires, (l.loop-cursor.invariant.0, omega (arith, l.statement_count-count.ensures, c.loop-cursor-test.true)))

pub returns-in_err-statement_refusal : goal.returns-in_err-statement_refusal
unfolding of_statements
returns-in_err-statement_refusal c =
    let s = c.args.rec.now in
    let ss = (block_in s).statements in
    let i = c.loop-cursor.cursor.index in
    let inside : i < length ss = omega (arith, c.statement_count-count.ensures, c.loop-cursor-test.true) in
    let here = ap (λ (x : Statement). refusal (statement_checks x)) c.next_statement-found.ensures.0 in
    let told = c.in_err-statement_refusal.ensures s ∙ here in
    let p = err_from_is_err_and c.from_residual.result c.from_residual.ensures.1 in
    rw (p.1, p.2) (told ∙ sym (c.loop-cursor.invariant.1.1 ∙ statement_refused ss i inside
    (λ e. number_not_zero c.in_err-statement_refusal.field-0.0 (told ∙ e))))

pub loop-cursor-smaller : goal.loop-cursor-smaller
loop-cursor-smaller c =
    let n = c in
    let l = n in
    let r = l.args.rec.now in
    omega (
      arith,
      placed_index r n.next_statement-found.result.next (l.loop-cursor.cursor.index + 1) n.next_statement-found.ensures.1.0,
      l.statement_count-count.ensures,
      n.loop-cursor-test.true,
    )

pub loop-cursor-preserved : goal.loop-cursor-preserved
loop-cursor-preserved c =
    let n = c in
    let l = n in
    let o = l in
    let s = o.args.rec.now in
    let ss = (block_in s).statements in
    let i = l.loop-cursor.cursor.index in
    let inside : i < length ss = omega (arith, l.statement_count-count.ensures, n.loop-cursor-test.true) in
    let here = ap (λ (x : Statement). refusal (statement_checks x)) n.next_statement-found.ensures.0 in
    let next = n.next_statement-found.result.next in
    let index = placed_index s next (i + 1) n.next_statement-found.ensures.1.0 in
    let none = sym (c.in_ok-statement_refusal.ensures s ∙ here) in (
      placed s next (i + 1) n.next_statement-found.ensures.1.0,
      (omega (arith, index, inside), l.loop-cursor.invariant.1.1 ∙ rw index (statement_on ss i inside none)),
    )

pub returns : goal.returns
unfolding of_statements
returns c =
    let l = c in
    let s = l.args.rec.now in
    sym (l.loop-cursor.invariant.1.1 ∙ statement_end (block_in s).statements l.loop-cursor.cursor.index
    (omega (arith, l.statement_count-count.ensures, c.loop-cursor-test.false)))
