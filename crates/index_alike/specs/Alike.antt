-- Machinery for the contracts of inner functions: runs that each source with runs left has next. Assumes nothing: these are definitions.
use Rattle.std.specs.Prelude.{ℕ, ◌+◌, ◌*◌, ◌≤◌, ◌<◌, ◌≡◌, List, drop}
use Rattle.index_spec.specs.Walk.{run_from, runs_from}
use Rattle.index_pieces.specs.Sources.{cursor_at, cursor_left}

-- after its next k runs a source with so many left at a position has the run at pos; or none is left of it
pub data HasRun (ix : List ℕ) (pos k at left : ℕ) : Type 0 where
  ended : left ≡ 0 → HasRun ix pos k at left
  there : k < left → run_from (drop pos ix) ≡ run_from (drop (at + 10 * k) ix) → HasRun ix pos k at left

-- its next k runs are those at pos; or none is left of it
pub data HasRuns (ix : List ℕ) (pos k at left : ℕ) : Type 0 where
  over : left ≡ 0 → HasRuns ix pos k at left
  alike : k ≤ left → runs_from k (drop pos ix) ≡ runs_from k (drop at ix) → HasRuns ix pos k at left

unfoldable pub AllHave : List ℕ → List ℕ → ℕ → ℕ → ℕ → Type 0
AllHave ix cs n pos k = (j : ℕ) → j < n → HasRun ix pos k (cursor_at cs j) (cursor_left cs j)

-- every source has these k runs next, or none is left of it
unfoldable pub Shared : List ℕ → List ℕ → ℕ → ℕ → ℕ → Type 0
Shared ix cs n pos k = (j : ℕ) → j < n → HasRuns ix pos k (cursor_at cs j) (cursor_left cs j)
