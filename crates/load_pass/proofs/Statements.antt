-- The shares among the statements of a record. Assumes nothing.
use mathlib.Core.Path.{◌≡◌, refl, sym, ap, ◌∙◌}
use mathlib.Core.Bool.{true, false}
use mathlib.Core.List.{List}
use mathlib.Core.Option.{some}
use Prim.Native.Nat.{ℕ, ◌+◌, ◌<◌, ◌≤◌}
use native.Mathlib.Omega.{arith}
use lib.Dec.{eqb}
use lib.ListN.{length, get_or, get_elem?}
use borrow.Author.Tests.{eqb-true}
use Rattle.base.proofs.Le.{AllBytes}
use Rattle.base.proofs.Tests.{and_right}
use Rattle.record_spec.specs.Block.{share, Block, is_share}
use Rattle.record_spec.specs.Record.{well_formed, no_statement, statement_start}
use Rattle.record_statement.specs.Step.{payload_between}
use Rattle.record_statement.specs.Values.{as_statement}
use Rattle.record_statement.specs.declared.BaseStatement.{BaseStatement}
use Rattle.record_statement.specs.declared.BaseStatement.TheVariants.{Share, Accept, Reject, RejectFor, VoteRange}
use Rattle.record_cursor.proofs.Statements.{start_inside}
use Rattle.store_payload.specs.Answers.{shared_by}
use Rattle.std.specs.Prelude.{Some, None}
use Rattle.base.proofs.Lists.{element_at}

pub payload_here : (b : Block) (i : ℕ) (p : List ℕ) → i < length b.statements → share p ≡ get_or b.statements i no_statement → get_elem? b.statements i ≡
    some (share p)
payload_here b i p h e = element_at b.statements i no_statement h ∙ ap some (sym e)

-- ---- what the code tells of a statement

pub told_other : (rec : List ℕ) (st : BaseStatement) → shared_by st ≡ None → is_share (as_statement rec st) ≡ false
unfolding shared_by as_statement is_share
told_other rec (Share start len) h = absurd (let z : ◌≡◌ {A = ℕ} 0 1 = cc in omega arith)
told_other rec (Accept l) h = refl
told_other rec (Reject l) h = refl
told_other rec (RejectFor l other) h = refl
told_other rec (VoteRange r) h = refl

pub told_share : (st : BaseStatement) (start len : ℕ) → shared_by st ≡ Some (start, len) → st ≡ Share start len
unfolding shared_by
told_share (Share a n) start len h =
    let e : ◌≡◌ {A = ℕ × ℕ} (a, n) (start, len) = cc in
    rw (ap (λ (p : ℕ × ℕ). p.0) e, ap (λ (p : ℕ × ℕ). p.1) e)
told_share (Accept l) start len h = absurd (let z : ◌≡◌ {A = ℕ} 0 1 = cc in omega arith)
told_share (Reject l) start len h = absurd (let z : ◌≡◌ {A = ℕ} 0 1 = cc in omega arith)
told_share (RejectFor l other) start len h = absurd (let z : ◌≡◌ {A = ℕ} 0 1 = cc in omega arith)
told_share (VoteRange r) start len h = absurd (let z : ◌≡◌ {A = ℕ} 0 1 = cc in omega arith)

-- a share's payload lies in the record
pub payload_inside : (rec : List ℕ) → AllBytes rec → well_formed rec ≡ true → (i at next start len : ℕ) → payload_between at next (Share start len) ≡ true →
    next ≡ statement_start rec (i + 1)
    → start + len ≤ length rec
unfolding payload_between
payload_inside rec a w i at next start len p e =
    omega (arith, eqb-true (start + len) next (and_right (eqb start (at + 3)) _ p), start_inside rec a w (i + 1))
