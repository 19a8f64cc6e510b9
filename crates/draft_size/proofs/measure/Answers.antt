use mathlib.Core.Path.{◌≡◌, refl, sym, ◌∙◌}
use Prim.Native.Nat.{◌-◌}
use native.Mathlib.Omega.{arith}
use lib.ListN.{length}
use borrow.Author.Rules.{rules}
use borrow.Author.Tests.{le-leb}
use Rattle.record_spec.specs.Record.{statement_bytes}
use Rattle.record_statement.specs.Values.{as_statement}
use Rattle.draft_joined.specs.Step.{joined_from, TookJoined}
use Rattle.draft_statements.proofs.Written.{length_written, size_bytes, size_long}
use Rattle.std.specs.Prelude.{Some}
use Rattle.draft_size.specs.Step.{measured_on, low}
use Rattle.draft_size.proofs.Measuring.{joined_done, measured_done, measured_long, measured_many, measured_on_lem}
use Rattle.draft_size.proofs.measure.Goals as goal

pub loop-at-init : goal.loop-at-init
loop-at-init c = (omega arith, (omega arith, (omega arith, refl)))

pub next_joined-requires : goal.next_joined-requires
next_joined-requires c = c.loop-at-test.true

pub returns-in_err-statement : goal.returns-in_err-statement
unfolding TookJoined measured_on low
returns-in_err-statement c = record {
  value = rw c.from_residual.ensures (sym (c.loop-at.invariant.1.1.1 ∙ rw c.in_err-statement.ensures));
  result_value = rw c.from_residual.ensures refl;
}

pub returns-in_err-size : goal.returns-in_err-size
unfolding TookJoined low
returns-in_err-size c =
    let l = c.loop-at in
    let s = c.args.s.now in
    let st = c.in_ok-statement.statement in
    let next = c.in_ok-statement.next in
    let told : TookJoined s l.at (Some (st, next)) = c.in_ok-statement.ensures in record {
      value = rw c.from_residual-in_err-size.ensures (sym (l.invariant.1.1.1 ∙ rw told.0 (measured_long l.count l.bytes (as_statement s st)
          (size_long s st told.1.1.1 (sym c.statement_size.ensures ∙ c.in_err-size.was)) (joined_from s next))));
      result_value = rw c.from_residual-in_err-size.ensures refl;
    }

pub returns-then-count-eq-MAX_STATEMENTS : goal.returns-then-count-eq-MAX_STATEMENTS
unfolding TookJoined low
returns-then-count-eq-MAX_STATEMENTS c =
    let l = c.loop-at in
    let s = c.args.s.now in
    let st = c.in_ok-statement.statement in
    let next = c.in_ok-statement.next in
    let told : TookJoined s l.at (Some (st, next)) = c.in_ok-statement.ensures in
    record {
      value = sym (l.invariant.1.1.1 ∙ rw told.0
          (measured_many l.count l.bytes (as_statement s st) (omega (arith, c.if-count-eq-MAX_STATEMENTS.true)) (joined_from s next)));
      result_value = refl;
    }

pub overflow_add-count : goal.overflow_add-count
overflow_add-count c = omega (arith, c.loop-at.invariant.1.0)

pub overflow_add-bytes : goal.overflow_add-bytes
unfolding TookJoined
overflow_add-bytes c =
    let l = c.loop-at in
    let s = c.args.s.now in
    let st = c.in_ok-statement.statement in
    let next = c.in_ok-statement.next in
    let told : TookJoined s l.at (Some (st, next)) = c.in_ok-statement.ensures in
    let size = size_bytes s st c.in_ok-size.size told.1.1.1
    (sym c.statement_size.ensures ∙ c.in_ok-size.was) in
    omega (arith, l.invariant.1.0, l.invariant.1.1.0, size.1.1)

pub loop-at-smaller : goal.loop-at-smaller
unfolding TookJoined
loop-at-smaller c =
    let l = c.loop-at in
    let s = c.args.s.now in
    let st = c.in_ok-statement.statement in
    let next = c.in_ok-statement.next in
    let told : TookJoined s l.at (Some (st, next)) = c.in_ok-statement.ensures in
    omega (arith, told.1.0, told.1.1.0)

pub loop-at-preserved : goal.loop-at-preserved
unfolding TookJoined
loop-at-preserved c =
    let l = c.loop-at in
    let s = c.args.s.now in
    let st = c.in_ok-statement.statement in
    let next = c.in_ok-statement.next in
    let told : TookJoined s l.at (Some (st, next)) = c.in_ok-statement.ensures in
    let n = c.in_ok-size.size in
    let size = size_bytes s st n told.1.1.1 (sym c.statement_size.ensures ∙ c.in_ok-size.was) in
    let long : n ≡ length (statement_bytes (as_statement s st)) = size.1.0 ∙ sym (length_written s st told.1.1.1) in (
      told.1.1.0,
      (
        omega (arith, l.invariant.1.0, c.if-count-eq-MAX_STATEMENTS.false),
        (
          omega (arith, l.invariant.1.1.0, size.1.1),
          l.invariant.1.1.1 ∙ rw told.0 (measured_on_lem l.count l.bytes (as_statement s st) n size.0 long (joined_from s next)),
        ),
      ),
    )

pub returns : goal.returns
unfolding low
returns c =
    let l = c.loop-at in
    let s = c.args.s.now in record {
      value = sym (l.invariant.1.1.1 ∙ rw (joined_done s l.at (omega arith)) (measured_done l.count l.bytes l.invariant.1.0));
      result_value = le-leb l.bytes 67110912
          (omega (arith, l.invariant.1.0, l.invariant.1.1.0));
    }
