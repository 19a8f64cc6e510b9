use Prim.Native.Nat.{◌<◌, ◌-◌}
use mathlib.Core.Bool.{true, false}
use lib.ListN.{get_or, length}
use Rattle.record_spec.specs.Record.{no_statement, block_in}
use Rattle.final_block_rejects.specs.Speeches.{statement_rejects}
use mathlib.Core.Path.{◌≡◌, refl, sym, ◌∙◌}
use native.Mathlib.Omega.{arith}
use Rattle.types.specs.Values.{as_locator}
use Rattle.record_cursor.specs.Cursor.{cursor_at}
use Rattle.final_block_rejects.proofs.Reading.{rejects_start, rejects_found, rejects_passed, rejects_end}
use Rattle.final_block_rejects.proofs.rejects.Goals as goal

pub loop-cursor-init : goal.loop-cursor-init
unfolding cursor_at
loop-cursor-init c = let a = c.args in
    let e = c.first_statement-cursor.ensures in
    rw e (refl, (omega arith, rejects_start (block_in a.rec.now) (as_locator a.locator)))

pub next_statement-next-requires : goal.next_statement-next-requires
next_statement-next-requires c = (
  c.requires,
  (c.loop-cursor.invariant.0, omega (arith, c.loop-cursor-test.true, c.statement_count-count.ensures)),
)

pub returns-then-statement_rejects : goal.returns-then-statement_rejects
returns-then-statement_rejects c = let a = c.args in
    let b = block_in a.rec.now in
    let i = c.loop-cursor.cursor.index in
    let st = c.next_statement-next.result.statement in
    let h : i < length b.statements = omega (
      arith,
      c.loop-cursor-test.true,
      c.statement_count-count.ensures,
    ) in
    let e : statement_rejects (get_or b.statements i no_statement) (as_locator a.locator) ≡ true =
    rw (← c.next_statement-next.ensures.0) (sym (c.statement_rejects.ensures a.rec.now) ∙ c.if-statement_rejects.true) in
    rejects_found b (as_locator a.locator) i h e ∙ sym c.loop-cursor.invariant.1.1

pub loop-cursor-smaller : goal.loop-cursor-smaller
unfolding cursor_at
loop-cursor-smaller c = let a = c.args in
    let i = c.loop-cursor.cursor.index in
    rw c.next_statement-next.ensures.1.0
    (omega (
      arith,
      c.loop-cursor-test.true,
      c.statement_count-count.ensures,
    ))

pub loop-cursor-preserved : goal.loop-cursor-preserved
unfolding cursor_at
loop-cursor-preserved c = let a = c.args in
    let b = block_in a.rec.now in
    let i = c.loop-cursor.cursor.index in
    let h : i < length b.statements = omega (
      arith,
      c.loop-cursor-test.true,
      c.statement_count-count.ensures,
    ) in
    let e : statement_rejects (get_or b.statements i no_statement) (as_locator a.locator) ≡ false =
    rw (← c.next_statement-next.ensures.0) (sym (c.statement_rejects.ensures a.rec.now) ∙ c.if-statement_rejects.false) in
    rw c.next_statement-next.ensures.1.0
    (refl, (omega arith, c.loop-cursor.invariant.1.1 ∙ rejects_passed b (as_locator a.locator) i h e))

pub returns : goal.returns
returns c = let a = c.args in
    let b = block_in a.rec.now in
    let i = c.loop-cursor.cursor.index in
    sym (c.loop-cursor.invariant.1.1 ∙ rejects_end b (as_locator a.locator) i
    (omega (arith, c.loop-cursor-test.false, c.statement_count-count.ensures)))
