use Prim.Native.Nat.{ℕ, ◌+◌}
use mathlib.Core.Path.{◌≡◌, refl, sym, ap, ◌∙◌}
use native.Mathlib.Omega.{arith}
use Rattle.base.proofs.Le.{bytes_of}
use Rattle.record_cursor.specs.Cursor.{cursor_at}
use Rattle.record_cursor.specs.declared.StatementCursor.{StatementCursor}
use Rattle.store_payload.specs.Answers.{share_within}
use Rattle.store_payload.proofs.Located.{share_past, share_found}
use Rattle.store_payload.proofs.find_share.Goals as goal

named_result_value_result_value_2 : {P0 P1 : Type 0} → P0 × P1 → record { result_value : P0; result_value_2 : P1 }
named_result_value_result_value_2 p = record { result_value = p.0; result_value_2 = p.1 }

pub returns-then-statement_count-offset : goal.returns-then-statement_count-offset
unfolding share_within
returns-then-statement_count-offset c = record { result_value = share_past c.args.rec.now c.args.offset (omega arith); result_value_2 = refl }

pub loop-i-init : goal.loop-i-init
loop-i-init c = (c.first_statement-cursor.ensures, omega arith)

pub next_statement-passed-requires : goal.next_statement-passed-requires
unfolding cursor_at
next_statement-passed-requires c =
    let q = c.loop-i.invariant.0 in
    let i : c.loop-i.cursor.index ≡ c.loop-i.i = ap (λ (x : StatementCursor). x.index) q in (
      c.requires,
      (
        q ∙ ap (cursor_at c.args.rec.now) (sym i),
        omega arith,
      ),
    )

pub loop-i-preserved : goal.loop-i-preserved
unfolding cursor_at
loop-i-preserved c =
    let i : c.loop-i.cursor.index ≡ c.loop-i.i = ap (λ (x : StatementCursor). x.index)
    c.loop-i.invariant.0 in (
      c.next_statement-passed.ensures.1.0 ∙ ap (λ (k : ℕ). cursor_at c.args.rec.now
          (k + 1)) i,
      omega arith,
    )

pub next_statement-found-requires : goal.next_statement-found-requires
unfolding cursor_at
next_statement-found-requires c =
    let q = c.loop-i.invariant.0 in
    let i : c.loop-i.cursor.index ≡ c.loop-i.i = ap (λ (x : StatementCursor). x.index) q in (
      c.requires,
      (
        q ∙ ap (cursor_at c.args.rec.now) (sym i),
        omega arith,
      ),
    )

pub returns : goal.returns
returns c =
    named_result_value_result_value_2 (let a = c.args in
    let l = c.loop-i in
    let last : l.i ≡ a.offset = omega arith in
    rw c.share_place.ensures (share_found a.rec.now (bytes_of a.rec.now
    (λ j h. omega (arith, c.shared_slice_known-1.given j)))
    c.requires a.offset l.cursor c.next_statement-found.result
    (l.invariant.0 ∙ ap (cursor_at a.rec.now) last) (omega arith) c.next_statement-found.ensures))
