-- Machinery for the contracts of inner functions: places of shares as they are read. Assumes nothing: these are definitions.
use Rattle.std.specs.Prelude.{ℕ, ◌+◌, ◌*◌, ◌≤◌, ◌<◌, ◌≡◌, Bool, true, List, length, get_or}
use Rattle.base.specs.Lists.{any_of}
use Rattle.base.specs.Le.{Bytes}
use Rattle.record_spec.specs.Reference.{TransactionLocator, locator, same_locator, locator_before}
use Rattle.store_spec.specs.Entry.{block_at, is_entry}
use Rattle.load_spec.specs.Needs.{needed_by}
use Rattle.load_spec.specs.Loadable.{met}
use Rattle.load_spec.specs.Question.{named_by}

-- the share that a place names
unfoldable pub place_at : Bytes → List ℕ → ℕ → TransactionLocator
place_at s ps i = locator (block_at s (get_or ps (2 * i) 0)).reference (get_or ps (2 * i + 1) 0)

-- the first n places name shares of entries, ascending
pub record Listed (s : Bytes) (ps : List ℕ) (n : ℕ) : Type 0 where
  pub long : 2 * n ≤ length ps
  pub entry : (i : ℕ) → i < n → is_entry s (get_or ps (2 * i) 0) ≡ true
  pub rises : (i j : ℕ) → i < j → j < n → locator_before (place_at s ps i) (place_at s ps j) ≡ true

-- what a share with this payload needs, if anything, is of a lower round and among the first n places
unfoldable pub met_by : Bytes → ℕ → List ℕ → TransactionLocator → Bytes → Bool
met_by s n ps l p = met (λ m. any_of (same_locator m) (named_by s n ps)) l (needed_by p)
