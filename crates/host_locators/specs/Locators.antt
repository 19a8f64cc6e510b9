-- Questions about a locator that crosses as bytes. Assumes nothing: these are definitions.
use Rattle.std.specs.Prelude.{ℕ, true, not, List, [], ◌∷◌, ◌++◌}
use Rattle.std.proofs.Math.Option.{Option, none, some}
use Rattle.base.specs.Le.{Bytes}
use Rattle.base.specs.Read.{complete}
use Rattle.base.specs.Checks.{Check, ◌⇒◌, refusal, Answer, refused}
use Rattle.committee.specs.Committee.{Committee, broken}
use Rattle.record_spec.specs.Reference.{TransactionLocator}
use Rattle.record_spec.specs.Record.{read_locator}
use Rattle.store_spec.specs.Store.{store_in_order}

-- a locator is the 56 bytes that it has in a record; bytes of another length are none
unfoldable pub locator_of : Bytes → Option TransactionLocator
locator_of b = complete (read_locator b)

-- 01: "Queries check 5, 10"
unfoldable pub store_checks : Committee → Bytes → List Check
store_checks c s = (broken c ⇒ 5) ∷ (not (store_in_order c s) ⇒ 10) ∷ []

-- the number of a refusal that applies in any case, after 5 and 10
unfoldable pub refusal_before : ℕ → Committee → Bytes → ℕ
refusal_before n c s = refusal (store_checks c s ++ ((true ⇒ n) ∷ []))

-- a question about a locator: bytes that are none are malformed, 20
unfoldable pub asked : {A : Type 0} → Committee → Bytes → (TransactionLocator → Answer A) → Option TransactionLocator → Answer A
asked c s question none = refused (refusal_before 20 c s)
asked c s question (some l) = question l
