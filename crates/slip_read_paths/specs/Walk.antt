-- Machinery for the contracts of inner functions: votes that were noted, and where the code's paths lead. Assumes nothing: these are definitions.
use Rattle.std.specs.Prelude.{ℕ, ◌<◌, ◌≡◌, List, length, get_or}
use Rattle.base.specs.Lists.{pick}
use Rattle.base.specs.Le.{Bytes}
use Rattle.record_spec.specs.Reference.{TransactionLocator}
use Rattle.final_spec.specs.Voters.{votes_for}
use Rattle.slip_spec.specs.Paths as paths
use Rattle.slip_read_records.specs.Places.{block_at_place}
use Rattle.slip_read_paths.specs.declared.Led.{Led}
use Rattle.slip_read_paths.specs.declared.Led.TheVariants.{To, Nowhere, NotGiven}

-- for the first n places it is noted whether the block there votes
pub record Noted (q : Bytes) (order : List ℕ) (l : TransactionLocator) (n : ℕ) (votes : List ℕ) : Type 0 where
  pub at : (j : ℕ) → j < n → get_or votes j 0 ≡ pick (votes_for (block_at_place q order j) l) 1 0

-- a place that is led to is one
unfoldable pub InPlace : List ℕ → Led → Type 0
InPlace order (To j) = j < length order
InPlace order Nowhere = Unit {0}
InPlace order NotGiven = Unit {0}

-- where it is led to
pub data LedTo (q : Bytes) (order : List ℕ) : Led → paths.Led → Type 0 where
  to_place : (j : ℕ) → j < length order → LedTo q order (To j) (paths.to_block (block_at_place q order j))
  ends : LedTo q order Nowhere paths.nowhere
  missing : LedTo q order NotGiven paths.not_given
