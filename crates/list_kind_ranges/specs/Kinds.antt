-- The ranges of a block by their kind: those for which it votes, those that it rejects, and its shares. Assumes nothing: these are definitions.
use Rattle.std.specs.Prelude.{ℕ, Bool, true, false, List, map}
use Rattle.std.proofs.Math.Option.{none}
use Rattle.record_spec.specs.Reference.{TransactionLocatorRange, locator, TransactionLocator, covers}
use Rattle.record_spec.specs.Block.{Statement, share, accept, reject, vote_range, Block}
use Rattle.list_block_spans.specs.Ranges.{ranges_at}
use Rattle.list_kind_ranges.specs.declared.RangeKind.{RangeKind}
use Rattle.list_kind_ranges.specs.declared.RangeKind.TheVariants.{Votes, Rejects, Shares}
use Rattle.base.specs.Lists.{any_of}

unfoldable pub is_rejects : RangeKind → Bool
is_rejects Votes = false
is_rejects Rejects = true
is_rejects Shares = false

unfoldable pub is_shares : RangeKind → Bool
is_shares Votes = false
is_shares Rejects = false
is_shares Shares = true

-- a block of which nothing but the shares speaks: each other statement is a reject, which votes for nothing
unfoldable pub silent : Statement → Statement
silent (share payload) = share payload
silent (accept l) = reject l none
silent (reject l other) = reject l none
silent (vote_range q) = reject (locator q.block 0) none

unfoldable pub sharing : Block → Block
sharing b = record { reference = b.reference; marked = b.marked; includes = b.includes; statements = map silent b.statements }

-- those of the statements from index i on
unfoldable pub kind_ranges_at : RangeKind → Block → ℕ → List TransactionLocatorRange
kind_ranges_at Votes b i = ranges_at false b i
kind_ranges_at Rejects b i = ranges_at true b i
kind_ranges_at Shares b i = ranges_at false (sharing b) i

unfoldable pub kind_ranges : RangeKind → Block → List TransactionLocatorRange
kind_ranges kind b = kind_ranges_at kind b 0

-- some range covers the locator
abbrev pub any_span : List TransactionLocatorRange → TransactionLocator → Bool
any_span qs l = any_of (λ q. covers q l) qs
