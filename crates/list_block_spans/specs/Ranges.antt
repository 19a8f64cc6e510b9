-- The ranges for which a block votes, or those that it rejects. Assumes nothing: these are definitions.
use Rattle.std.specs.Prelude.{ℕ, Bool, true, false, eqb, drop}
use mathlib.Core.List.{List, [], ◌∷◌, map, flatten}
use Rattle.base.specs.Lists.{pick}
use Rattle.record_spec.specs.Reference.{TransactionLocator, TransactionLocatorRange, one_range}
use Rattle.record_spec.specs.Block.{Statement, Block}
use Rattle.final_readings_spec.specs.Rejecting.{rejected_in}
use Rattle.list_block_spans.specs.Joined.{joined_at}

-- a rejected locator as a range of one; nothing of the last offset, which no vote reaches
unfoldable pub rejected_range : TransactionLocator → List TransactionLocatorRange
rejected_range l = pick (eqb l.offset 18446744073709551615) [] (one_range l ∷ [])

-- what one statement rejects
unfoldable pub reject_ranges : Statement → List TransactionLocatorRange
reject_ranges s = flatten (map rejected_range (rejected_in s))

-- what the statements of a block from index i on reject, or vote for
unfoldable pub ranges_at : Bool → Block → ℕ → List TransactionLocatorRange
ranges_at true b i = flatten (map reject_ranges (drop i b.statements))
ranges_at false b i = joined_at b i

-- what all of them do
unfoldable pub ranges_of : Bool → Block → List TransactionLocatorRange
ranges_of rejecting b = ranges_at rejecting b 0
