use mathlib.Core.Path.{◌≡◌, refl, sym, ◌∙◌}
use mathlib.Core.Bool.{true}
use native.Mathlib.Omega.{arith}
use lib.ListN.{length, length-append}
use Rattle.base.proofs.Tests.{not_both}
use Rattle.base.proofs.Le.{sets_append}
use Rattle.record_spec.specs.Record.{statement_bytes}
use Rattle.record_statement.specs.Values.{as_statement}
use Rattle.std.specs.Prelude.{Some, None}
use Rattle.draft_joined.specs.Step.{joined_from, followed, TookJoined}
use Rattle.draft_statements.proofs.Written.{length_written, size_bytes, size_long}
use Rattle.draft_size.specs.Step.{bytes_in, writable}
use Rattle.draft_size.proofs.Measuring.{joined_done, writes_short, writes_others, writes_first, writes_none, writes_done}
use Rattle.draft_parts.proofs.write_statements.Goals as goal

pub loop-at-init : goal.loop-at-init
loop-at-init c = (omega arith, (c.requires.0, (c.requires.1, (refl, refl))))

pub next_joined-requires : goal.next_joined-requires
next_joined-requires c = c.loop-at-test.true

pub shape_of-out-in_default : goal.shape_of-out-in_default
shape_of-out-in_default c = c.loop-at.invariant.1.1.1.0

pub returns-in_default : goal.returns-in_default
unfolding TookJoined
returns-in_default c =
    let l = c.loop-at in
    let s = c.args.s.now in
    let told : TookJoined s l.at None = rw c.in_default.is at c.next_joined.ensures in
    absurd (writes_none (rw told at l.invariant.1.0))

pub shape_of-out-in_default-statement_size : goal.shape_of-out-in_default-statement_size
shape_of-out-in_default-statement_size c = c.loop-at.invariant.1.1.1.0

pub returns-in_default-statement_size : goal.returns-in_default-statement_size
unfolding TookJoined
returns-in_default-statement_size c =
    let l = c.loop-at in
    let a = c.args in
    let s = a.s.now in
    let st = c.in-Some.statement in
    let next = c.in-Some.next in
    let told : TookJoined s l.at (Some (st, next)) = rw c.in-Some.is at
    c.next_joined.ensures in
    let w = as_statement s st in
    let fits : writable (followed w (joined_from s next)) ≡ true = rw told.0 at l.invariant.1.0 in
    absurd (not_both (size_long s st told.1.1.1 (sym c.statement_size.ensures ∙ c.in_default-statement_size.is))
    (writes_short w (joined_from s next) fits))

pub write_statement-requires : goal.write_statement-requires
unfolding TookJoined
write_statement-requires c =
    let l = c.loop-at in
    let a = c.args in
    let s = a.s.now in
    let st = c.in-Some.statement in
    let next = c.in-Some.next in
    let told : TookJoined s l.at (Some (st, next)) = rw c.in-Some.is at
    c.next_joined.ensures in
    let w = as_statement s st in
    let fits : writable (followed w (joined_from s next)) ≡ true = rw told.0 at l.invariant.1.0 in
    let room = rw (told.0, writes_first w (joined_from s next) fits) at l.invariant.1.1.0 in
    (told.1.1.1, (writes_short w (joined_from s next) fits, omega (arith, room, length-append (statement_bytes w) (bytes_in (joined_from s next)))))

pub overflow_add-to : goal.overflow_add-to
unfolding TookJoined
overflow_add-to c =
    let l = c.loop-at in
    let a = c.args in
    let s = a.s.now in
    let st = c.in-Some.statement in
    let next = c.in-Some.next in
    let told : TookJoined s l.at (Some (st, next)) = rw c.in-Some.is
    at c.next_joined.ensures in
    let w = as_statement s st in
    let fits : writable (followed w (joined_from s next)) ≡ true = rw told.0 at l.invariant.1.0 in
    let n = c.in-Some-statement_size.size in
    let size = size_bytes s st n told.1.1.1 (sym c.statement_size.ensures ∙ c.in-Some-statement_size.is) in
    let room = rw (told.0, writes_first w (joined_from s next) fits) at l.invariant.1.1.0 in
    omega (arith, room, length-append (statement_bytes w) (bytes_in (joined_from s next)), size.1.0, length_written s st told.1.1.1)

pub loop-at-smaller : goal.loop-at-smaller
unfolding TookJoined
loop-at-smaller c =
    let l = c.loop-at in
    let a = c.args in
    let s = a.s.now in
    let st = c.in-Some.statement in
    let next = c.in-Some.next in
    let told : TookJoined s l.at (Some (st, next)) = rw c.in-Some.is
    at c.next_joined.ensures in
    let w = as_statement s st in
    let fits : writable (followed w (joined_from s next)) ≡ true = rw told.0 at l.invariant.1.0 in
    omega (arith, told.1.0, told.1.1.0)

pub loop-at-preserved : goal.loop-at-preserved
unfolding TookJoined
loop-at-preserved c =
    let l = c.loop-at in
    let a = c.args in
    let s = a.s.now in
    let st = c.in-Some.statement in
    let next = c.in-Some.next in
    let told : TookJoined s l.at (Some (st, next)) = rw c.in-Some.is
    at c.next_joined.ensures in
    let w = as_statement s st in
    let fits : writable (followed w (joined_from s next)) ≡ true = rw told.0 at l.invariant.1.0 in
    let n = c.in-Some-statement_size.size in
    let size = size_bytes s st n told.1.1.1 (sym c.statement_size.ensures ∙ c.in-Some-statement_size.is) in
    let long : length (statement_bytes w) ≡ n = length_written s st told.1.1.1 ∙ sym size.1.0 in
    let room = rw (told.0, writes_first w (joined_from s next) fits) at l.invariant.1.1.0 in
    let kept : length c.write_statement.new.out ≡ length l.out = c.write_statement.auto.out in (
      told.1.1.0,
      (
        writes_others w (joined_from s next) fits,
        (
          omega (arith, room, length-append (statement_bytes w) (bytes_in (joined_from s next)), long, kept),
          (
            kept ∙ l.invariant.1.1.1.0,
            l.invariant.1.1.1.1 ∙ rw (
              told.0,
              writes_first w (joined_from s next) fits,
              sets_append (statement_bytes w) (bytes_in (joined_from s next)) l.out
                  l.to,
              long,
              ← c.write_statement.ensures,
            ),
          ),
        ),
      ),
    )

pub shape_of-out : goal.shape_of-out
shape_of-out c = c.loop-at.invariant.1.1.1.0

pub returns : goal.returns
returns c =
    let l = c.loop-at in
    let s = c.args.s.now in
    sym (l.invariant.1.1.1.1 ∙ rw (joined_done s l.at (omega arith), writes_done))
