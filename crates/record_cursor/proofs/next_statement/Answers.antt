use mathlib.Core.Path.{ap}
use native.Mathlib.Omega.{arith}
use Rattle.base.proofs.Le.{bytes_of}
use Rattle.record_spec.specs.Record.{block_in, statement_start}
use Rattle.record_cursor.specs.Cursor.{cursor_at}
use Rattle.record_statement.specs.Step.{Took}
use Rattle.record_cursor.specs.declared.StatementCursor.{StatementCursor}
use Rattle.std.specs.Prelude.{Some, None}
use Rattle.record_reader.proofs.Shape.{shape_in, statement_count}
use Rattle.record_cursor.proofs.Statements.{took_some, took_none}
use Rattle.record_cursor.proofs.next_statement.Goals as goal

pub returns-in_default : goal.returns-in_default
unfolding cursor_at
returns-in_default c =
    let o = c in
    let s = o.args.rec.now in
    let i = o.args.cursor.index in
    let told : Took s (statement_start s i) None = rw (← ap (λ (x : StatementCursor). x.at) o.requires.1.0, ← c.in_default.is)
    c.take_statement.ensures in
    absurd (took_none s (bytes_of s (λ j h. omega (arith, c.shared_slice_known-1.given j))) o.requires.0 i o.requires.1.1 told)

pub overflow_add-result : goal.overflow_add-result
overflow_add-result c =
    let o = c in
    let s = o.args.rec.now in
    let shape = shape_in s o.requires.0 in
    omega (arith, o.requires.1.1, statement_count s (block_in s) shape, shape.head.statements)

pub returns : goal.returns
unfolding cursor_at
returns c =
    let o = c in
    let s = o.args.rec.now in
    let i = o.args.cursor.index in
    let st = c.in-Some.statement in
    let end = c.in-Some.end in
    let told : Took s (statement_start s i) (Some (st, end)) = rw
    (← ap (λ (x : StatementCursor). x.at) o.requires.1.0, ← c.in-Some.is)
    c.take_statement.ensures in
    let r = took_some s (bytes_of s (λ j h. omega (arith, c.shared_slice_known-1.given j))) o.requires.0 i end st
    o.requires.1.1 told in
    (r.0, (rw r.1.0, rw (ap (λ (x : StatementCursor). x.at) o.requires.1.0) r.1.1))
