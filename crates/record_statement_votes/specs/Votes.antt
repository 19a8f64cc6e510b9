-- What a statement votes for, as the code has it. Assumes nothing: these are definitions.
use Rattle.std.specs.Prelude.{◌≡◌}
use Rattle.std.proofs.Math.Option.{Option, none, some}
use Rattle.record_spec.specs.Reference.{TransactionLocatorRange, one_range}
use Rattle.record_spec.specs.Block.{Statement, voted_range}
use Rattle.types.specs.Values.{as_locator, as_range}
use Rattle.record_statement_votes.specs.declared.Vote as votes
use Rattle.record_statement_votes.specs.declared.Vote.TheVariants as variants
use Rattle.std.specs.Prelude.{None, Some}
use Rattle.std.specs.declared.option.Option as code
use Rattle.types.specs.declared.TransactionLocatorRange as ranges

unfoldable pub as_vote : votes.Vote → Option TransactionLocatorRange
as_vote (variants.Locator l) = some (one_range (as_locator l))
as_vote (variants.Range r) = some (as_range r)
as_vote variants.Nothing = none

unfoldable pub as_voted : code.Option ranges.TransactionLocatorRange → Option TransactionLocatorRange
as_voted (Some r) = some (as_range r)
as_voted None = none

-- 28 refuses an accept of the last offset, so that the end of what a statement votes for is a number of the code
unfoldable pub EndsInside : Statement → Type 0
EndsInside s = (q : TransactionLocatorRange) → voted_range s ≡ some q → q.end ≡ 18446744073709551616 → ⊥
