use mathlib.Core.Path.{◌≡◌, refl, sym, ap, subst, ◌∙◌}
use mathlib.Core.Bool.{true}
use Prim.Native.Nat.{ℕ}
use native.Mathlib.Omega.{arith}
use Rattle.base.specs.Le.{Bytes}
use Rattle.record_spec.specs.Record.{well_formed}
use Rattle.record_cursor.specs.Cursor.{cursor_at}
use Rattle.record_cursor.specs.declared.StatementCursor.{StatementCursor}
use Rattle.store_spec.specs.Entry.{record_at, is_entry}
use Rattle.store_spec.proofs.Loops.{entry_room}
use Rattle.load_pass.specs.Holding.{Read}
use Rattle.load_pass.proofs.read_from.Goals as goal

pub returns-then-cursor-offset : goal.returns-then-cursor-offset
unfolding Read
returns-then-cursor-offset c =
    let a = c.args in
    let q = c.requires in
    let same : a.read.at ≡ a.at = omega (arith, c.if-read-at.true) in (
      same,
      (
        c.requires.0
            (subst (λ (p : ℕ). is_entry a.store.now p ≡ true) (sym same) c.requires.1.0) ∙ ap
            (λ (x : Bytes). cursor_at x a.read.cursor.index) (ap (record_at a.store.now) same ∙ sym
            c.requires.1.1),
        omega (arith, c.if-cursor-offset.true),
      ),
    )

pub first_statement-requires : goal.first_statement-requires
first_statement-requires c =
    let a = c.args in
    subst (λ (x : Bytes). well_formed x ≡ true) (sym c.requires.1.1)
    (entry_room a.store.now a.at c.requires.1.0).formed

pub returns : goal.returns
unfolding cursor_at
returns c =
    let e = c.first_statement.ensures in
    let z : c.first_statement.result.index ≡ 0 = ap (λ (x : StatementCursor). x.index) e in
    (refl, (e ∙ ap (cursor_at c.args.rec.now) (sym z), omega (arith, z)))
