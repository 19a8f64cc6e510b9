-- The checks of a block in order: 21 and 22, and 24 to 29. Assumes nothing.
use mathlib.Core.Path.{◌≡◌, refl, sym, ◌∙◌}
use mathlib.Core.Bool.{true, not, ◌&&◌}
use mathlib.Core.List.{List, [], ◌∷◌, ◌++◌, map, flatten}
use Prim.Native.Nat.{suc}
use native.Mathlib.Omega.{arith}
use lib.Dec.{eqb, lit<}
use lib.ListN.{length}
use borrow.Author.Tests.{ne_eqb}
use Rattle.base.specs.Lists.{pick, is_empty}
use Rattle.base.specs.Checks.{Check, refusal, passes}
use Rattle.base.proofs.Lists.{none_of, and, every_append}
use Rattle.base.proofs.Refusals.{zero_passes, refusal_first, refusal_then}
use Rattle.committee.specs.Committee.{Committee, known}
use Rattle.record_spec.specs.Block.{Block}
use Rattle.record_spec.specs.Verify.{head_checks, include_checks, statement_checks, clock_valid, body_checks}
use Rattle.record_check_includes.proofs.Includes.{of_includes, includes_numbered}
use Rattle.record_check_statements.proofs.Statements.{of_statements, statements_numbered}

-- ---- 21 and 22

empty_length : {A : Type 0} (xs : List A) → is_empty xs ≡ eqb (length xs) 0
unfolding is_empty
empty_length [] = refl
empty_length (x ∷ xs) = sym (ne_eqb (suc (length xs)) 0 (λ e. omega arith))

pub head_is : (c : Committee) (b : Block)
    → refusal (head_checks c b)
    ≡ pick (not (known c b.reference.authority)) 21
    (pick (eqb b.reference.round 0 && not (eqb (length b.includes) 0 && eqb (length b.statements) 0)) 22 0)
unfolding head_checks refusal
head_is c b = rw (empty_length b.includes, empty_length b.statements)

-- ---- all of it

module _ (c : Committee) (b : Block) where
  abbrev clock : List Check
  clock = (record { applies = not (eqb b.reference.round 0) && not (clock_valid c b); number = 29 }) ∷ []

  pub body_includes : (of_includes c b b.includes ≡ 0 → ⊥) → refusal (body_checks c b) ≡ of_includes c b b.includes
  unfolding body_checks of_includes
  body_includes f = refusal_first (flatten (map (include_checks c b) b.includes)) (flatten (map statement_checks b.statements) ++ clock) f

  pub body_statements : of_includes c b b.includes ≡ 0 → (of_statements b.statements ≡ 0 → ⊥) → refusal (body_checks c b) ≡ of_statements b.statements
  unfolding body_checks of_includes of_statements
  body_statements e f =
      refusal_then (flatten (map (include_checks c b) b.includes)) (flatten (map statement_checks b.statements) ++ clock)
      (includes_numbered c b b.includes) e
      ∙ refusal_first (flatten (map statement_checks b.statements)) clock f

  pub body_clock : of_includes c b b.includes ≡ 0 → of_statements b.statements ≡ 0
      → refusal (body_checks c b) ≡ pick (not (eqb b.reference.round 0) && not (clock_valid c b)) 29 0
  unfolding body_checks of_includes of_statements refusal
  body_clock e f =
      refusal_then (flatten (map (include_checks c b) b.includes)) (flatten (map statement_checks b.statements) ++ clock)
      (includes_numbered c b b.includes) e
      ∙ refusal_then (flatten (map statement_checks b.statements)) clock (statements_numbered b.statements) f

  -- where nothing refuses, every check passes
  pub body_passes : refusal (body_checks c b) ≡ 0 → passes (body_checks c b) ≡ true
  unfolding body_checks
  body_passes e =
      zero_passes (flatten (map (include_checks c b) b.includes) ++ (flatten (map statement_checks b.statements) ++ clock))
      (every_append (flatten (map (include_checks c b) b.includes)) (flatten (map statement_checks b.statements) ++ clock)
      (includes_numbered c b b.includes)
      (every_append (flatten (map statement_checks b.statements)) clock (statements_numbered b.statements) (and (lit< tt) none_of)))
      e

  pub head_passes : refusal (head_checks c b) ≡ 0 → passes (head_checks c b) ≡ true
  unfolding head_checks
  head_passes e = zero_passes _ (and (lit< tt) (and (lit< tt) none_of)) e
