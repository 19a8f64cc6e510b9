-- Machinery for the contracts: what stands at a position of the given statements, and what is written from there on. Assumes nothing: these are definitions.
use Rattle.std.specs.Prelude.{ℕ, Some, None, ◌+◌, ◌≤◌, ◌<◌, ◌≡◌, true, List, ◌∷◌, map, length, drop}
use Rattle.std.proofs.Math.Option
use Rattle.std.proofs.Math.Option.{Option, none, some}
use Rattle.base.specs.Le.{Bytes}
use Rattle.record_spec.specs.Reference.{TransactionLocator, TransactionLocatorRange, new_range, one_range}
use Rattle.record_spec.specs.Block.{Statement, accept}
use Rattle.types.specs.Values.{as_locator}
use Rattle.record_statement.specs.Values.{as_statement}
use Rattle.record_statement.specs.declared.BaseStatement.{BaseStatement}
use Rattle.types.specs.declared.TransactionLocator as locators
use Rattle.std.specs.declared.option.Option as code
use Rattle.draft_spec.specs.Draft.{read_given, statements_in}
use Rattle.draft_spec.specs.Joining.{run, fronted, pieces, run_statement, piece_statement, joined, right_piece}
use Rattle.draft_accept_runs.specs.Step.{payload_inside}

-- what was taken at a position is the statement that is given there, and ends where the rest begins; or none is given there
unfoldable pub TookGiven : Bytes → ℕ → code.Option (BaseStatement × ℕ) → Type 0
TookGiven s p (Some (st, next)) =
    (read_given (drop p s) ≡ some (record { value = as_statement s st; rest = drop next s }))
    × ((p < next) × ((next ≤ length s) × (payload_inside (length s) st ≡ true)))
TookGiven s p None = read_given (drop p s) ≡ none

-- ---- what is written
-- the statements from a position on, as they are written
unfoldable pub joined_from : Bytes → ℕ → Option (List Statement)
joined_from s p = Option.map joined (statements_in (drop p s))

-- with a run in front of them
unfoldable pub joined_after : TransactionLocatorRange → Bytes → ℕ → Option (List Statement)
joined_after r s p = Option.map (λ ss. map piece_statement (fronted r (pieces ss))) (statements_in (drop p s))

-- one, and then those
unfoldable pub followed : Statement → Option (List Statement) → Option (List Statement)
followed w ws = Option.map (λ xs. w ∷ xs) ws

-- an accept is given at the position, or every run in front of it ends there
unfoldable pub TookAccept : Bytes → ℕ → code.Option (locators.TransactionLocator × ℕ) → Type 0
TookAccept s p (Some (l, next)) =
    (read_given (drop p s) ≡ some (record { value = accept (as_locator l); rest = drop next s })) × ((p < next) × (next ≤ length s))
TookAccept s p None = (r : TransactionLocatorRange) → joined_after r s p ≡ followed (run_statement r) (joined_from s p)

-- the run that begins with an accept in front of a position: its last offset, and where it ends
pub record RunFrom (s : Bytes) (l : TransactionLocator) (p last next : ℕ) : Type 0 where
  pub onward : p ≤ next
  pub inside : next ≤ length s
  pub right : right_piece (run (new_range l.block l.offset (last + 1))) ≡ true
  pub says : joined_after (one_range l) s p ≡ followed (run_statement (new_range l.block l.offset (last + 1))) (joined_from s next)

-- what was taken at a position is what is written next; or the statements from there on are of another form
unfoldable pub TookJoined : Bytes → ℕ → code.Option (BaseStatement × ℕ) → Type 0
TookJoined s p (Some (st, next)) =
    (joined_from s p ≡ followed (as_statement s st) (joined_from s next))
    × ((p < next) × ((next ≤ length s) × (payload_inside (length s) st ≡ true)))
TookJoined s p None = joined_from s p ≡ none
