-- Machinery for the contracts of inner functions: the cursors of sources moved on by some runs. Assumes nothing: these are definitions.
use Rattle.std.specs.Prelude.{ℕ, zero, suc, ◌+◌, ◌-◌, ◌*◌, ◌≤◌, ◌<◌, ◌≡◌, List, length}
use Rattle.index_pieces.specs.Sources.{cursor_at, cursor_left}

-- a source has runs left
unfoldable pub Leads : List ℕ → ℕ → Type 0
Leads cs j = 0 < cursor_left cs j

-- where a cursor with so many runs left stands after k
unfoldable pub moved_at : ℕ → ℕ → ℕ → ℕ
moved_at at zero k = at
moved_at at (suc left) k = at + 10 * k

-- n cursors, each before at least k runs or before none
pub record Movable (cs : List ℕ) (n k : ℕ) : Type 0 where
  pub room : 2 * n ≤ length cs
  pub left : (j : ℕ) → j < n → 0 < cursor_left cs j → k ≤ cursor_left cs j
  pub fits : (j : ℕ) → j < n → cursor_at cs j + 10 * cursor_left cs j ≤ 18446744073709551615

-- they were moved on by k runs
pub record MovedBy (cs₀ : List ℕ) (n k : ℕ) (cs : List ℕ) : Type 0 where
  pub long : length cs ≡ length cs₀
  pub at : (j : ℕ) → j < n → cursor_at cs j ≡ moved_at (cursor_at cs₀ j) (cursor_left cs₀ j) k
  pub left : (j : ℕ) → j < n → cursor_left cs j ≡ cursor_left cs₀ j - k
