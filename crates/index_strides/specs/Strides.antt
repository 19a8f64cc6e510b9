-- Machinery for the contracts of inner functions: runs in a row that some sources have next. Assumes nothing: these are definitions.
use Rattle.std.specs.Prelude.{ℕ, ◌+◌, ◌*◌, ◌≤◌, ◌≡◌, List, ◌∷◌, length, drop}
use Rattle.record_spec.specs.Reference.{TransactionLocator}
use Rattle.index_spec.specs.Runs.{Run}
use Rattle.index_spec.specs.Walk.{Place, At, runs_from}
use Rattle.index_runs.specs.Values.{as_run, as_maybe}
use Rattle.index_pieces.specs.Pieces.{Piece, PieceOr}
use Rattle.index_pieces.specs.Sources.{Ready, together}
use Rattle.index_shared.specs.Shared.{Nexts}
use Rattle.index_strides.specs.declared.Stride.{Stride}

-- runs in a row, some of which stand in the index
unfoldable pub stride_runs : List ℕ → Stride → List Run
stride_runs ix r = as_run r.run ∷ runs_from r.more (drop r.pos ix)

-- they are the next ones from a piece on, up to a place, and were passed; the piece there
pub record Strode (own ms₀ ms ix : List ℕ) (n : ℕ) (cs₀ cs : List ℕ) (first : Run) (r : Stride) : Type 0 where
  pub place : Place
  pub inside : r.pos + 10 * r.more ≤ length ix
  pub nexts : (p : Place) → Piece (together own ms₀ ix cs₀ n) p first → Nexts (together own ms₀ ix cs₀ n) p (stride_runs ix r) place
  pub long : length cs ≡ length cs₀
  pub own_long : length ms ≡ length ms₀
  pub ready : Ready ix cs n
  pub own_ready : Ready own ms 1
  pub told : (l : TransactionLocator) → At place l.block l.offset → together own ms ix cs n l ≡ together own ms₀ ix cs₀ n l
  pub piece : PieceOr (together own ms ix cs n) place (as_maybe r.next)
