-- Machinery for the contracts of inner functions: marks of shares, and those that are left. Assumes nothing: these are definitions.
use Rattle.std.specs.Prelude.{ℕ, zero, suc, ◌<◌, ◌≡◌, Bool, true, false, List, length, get_or}
use Rattle.base.specs.Lists.{pick, any_of}
use Rattle.base.specs.Le.{Bytes}
use Rattle.record_spec.specs.Reference.{BlockReference, TransactionLocator, locator, same_locator}
use Rattle.final_block_votes.specs.Walk.{block_at_place}

-- what is left of a block's mark where those of some locators are taken away
unfoldable pub mark_left : List TransactionLocator → BlockReference → ℕ → ℕ
mark_left ls r zero = 0
mark_left ls r (suc o) = pick (any_of (same_locator (locator r o)) ls) 0 (suc o)

-- the marks of some locators are taken away, and the others stay
pub record Cleared (s : Bytes) (order : List ℕ) (ls : List TransactionLocator) (marks after : List ℕ) : Type 0 where
  pub long : length after ≡ length marks
  pub each : (k : ℕ) → k < length order → get_or after k 0 ≡ mark_left ls (block_at_place s order k).reference (get_or marks k 0)

-- whether the first n have no mark
unfoldable pub NoneLeft : List ℕ → ℕ → Bool → Type 0
NoneLeft marks n true = (k : ℕ) → k < n → get_or marks k 0 ≡ 0
NoneLeft marks n false = (k : ℕ) × (k < n) × (get_or marks k 0 ≡ 0 → ⊥)
