-- Machinery for the contracts of inner functions: edges passed, and where the sweep goes on. Assumes nothing: these are definitions.
use Rattle.std.specs.Prelude.{ℕ, ◌*◌, ◌≤◌, ◌<◌, ◌≡◌, Bool, true, false, List, length, None, Some}
use Rattle.std.proofs.Math.Option.{Option}
use Rattle.base.specs.Lists.{◌∈◌}
use Rattle.base.specs.Le.{Bytes}
use Rattle.record_spec.specs.Reference.{TransactionLocator, locator_before}
use Rattle.types.specs.Values.{as_locator, as_maybe}
use Rattle.final_spec.specs.NextFinal.{is_after}
use Rattle.list_row_sort.specs.Rows.{row_at, key_of, row_before, Inside}
use Rattle.list_edge_rows.specs.Edges.{place_of}
use Rattle.list_reach.specs.Reach.{From}
use Rattle.list_lanes.specs.Lanes.{Lanes}
use Rattle.list_cuts.specs.declared.Window.{Window}
use Rattle.list_sweep.specs.Sweep.{MarksAt, Swept, Standing, Stands, edge_locators}
use Rattle.list_sweep.specs.declared.Sweep as sweep
use Rattle.std.specs.declared.option.Option as code

-- what passing rows asks: n rows whose references stand in the store, of lanes that have a mark
pub record Passable (s : Bytes) (t marks : List ℕ) (n at : ℕ) : Type 0 where
  pub room : 3 * n ≤ length t
  pub inside : Inside s t n
  pub lanes : (i : ℕ) → i < n → place_of (row_at t i) < 3072
  pub long : length marks ≡ 3072
  pub below : at < n

-- the rows from one on that are not after it are passed
pub record Passed (s : Bytes) (t marks marks' : List ℕ) (n at r : ℕ) : Type 0 where
  pub most : r ≤ n
  pub long : length marks' ≡ length marks
  pub swept : (was : ℕ → Bool) → Swept was t marks at → Swept was t marks' r
  pub low : (j : ℕ) → at ≤ j → j < r → row_before s (row_at t at) (row_at t j) ≡ false
  pub high : r < n → row_before s (row_at t at) (row_at t r) ≡ true

abbrev pub Ready : Bytes → List ℕ → List ℕ → Window → ℕ → Type 0
Ready s t marks w at = Passable s t marks w.n at

pub record StopPassed (s : Bytes) (t marks marks' : List ℕ) (w : Window) (at : ℕ) (r : sweep.Sweep) : Type 0 where
  pub many : r.n ≡ w.n
  pub bound : r.bound ≡ w.bound
  pub here : as_locator r.here ≡ key_of s (row_at t at)
  pub passed : Passed s t marks marks' w.n at r.at

-- ---- from window to window

-- a sweep that stands at some locator, or before all
pub record Goes (lanes : Lanes) (s : Bytes) (t marks : List ℕ) (w : Window) (at : ℕ) : Type 0 where
  pub here : Option TransactionLocator
  pub stands : Standing lanes s t marks w.n (as_maybe w.bound) at here

-- it came to the next edge: up to there the marks before it are right, and from there on those after it
pub record MovedTo (lanes : Lanes) (s : Bytes) (marks t' marks' : List ℕ) (here : Option TransactionLocator) (r : sweep.Sweep) : Type 0 where
  pub long : length marks' ≡ length marks
  pub stands : Stands lanes s t' marks' r
  pub ahead : is_after here (as_locator r.here) ≡ true
  pub edge : as_locator r.here ∈ edge_locators lanes
  pub quiet : (l : TransactionLocator) → From here l → locator_before l (as_locator r.here) ≡ true → MarksAt lanes marks l

-- no edge follows: the marks are right from here on
unfoldable pub Moved : Lanes → Bytes → List ℕ → List ℕ → List ℕ → Option TransactionLocator → code.Option sweep.Sweep → Type 0
Moved lanes s marks t' marks' here (Some r) = MovedTo lanes s marks t' marks' here r
Moved lanes s marks t' marks' here None = (l : TransactionLocator) → From here l → MarksAt lanes marks l

unfoldable pub Gone : Lanes → Bytes → List ℕ → List ℕ → List ℕ → List ℕ → Window → ℕ → code.Option sweep.Sweep → Type 0
Gone lanes s t marks t' marks' w at r = (here : Option TransactionLocator) → Standing lanes s t marks w.n (as_maybe w.bound) at here → Moved lanes s
    marks t' marks' here r
