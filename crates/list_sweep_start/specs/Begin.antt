-- Machinery for the contracts of inner functions: where a sweep begins. Assumes nothing: these are definitions.
use Rattle.std.specs.Prelude.{ℕ, ◌+◌, ◌*◌, ◌≤◌, ◌<◌, ◌≡◌, true, false, List, length, None, Some}
use Rattle.std.proofs.Math.Option.{Option}
use Rattle.base.specs.Le.{Bytes}
use Rattle.base.proofs.Lists.{Every}
use Rattle.record_spec.specs.Reference.{TransactionLocator, locator, locator_before}
use Rattle.types.specs.Values.{as_locator}
use Rattle.types.specs.declared.TransactionLocator as types
use Rattle.final_spec.specs.NextFinal.{is_after}
use Rattle.list_row_sort.specs.Rows.{row_at, rows_of, key_of}
use Rattle.list_range_rows.specs.Ranges.{Proper}
use Rattle.list_reach.specs.Reach.{From}
use Rattle.list_kind_ranges.specs.Kinds.{any_span}
use Rattle.list_lanes.specs.Lanes.{Lanes}
use Rattle.list_cuts.specs.declared.Window.{Window}
use Rattle.list_sweep.specs.Sweep.{Stands}
use Rattle.list_sweep.specs.Step.{Passable, Passed}
use Rattle.list_sweep.specs.declared.Sweep as sweep
use Rattle.std.specs.declared.option.Option as code

-- m rows of a table that are ranges
pub record ProperRows (s : Bytes) (t : List ℕ) (m : ℕ) : Type 0 where
  pub room : 3 * m ≤ length t
  pub proper : Every (Proper s) (rows_of t m)

-- an offset follows, and the rows of the window can be passed
pub record StandsAfter (s : Bytes) (t marks : List ℕ) (w : Window) (given : types.TransactionLocator) : Type 0 where
  pub follows : given.offset < 18446744073709551615
  pub passable : 0 < w.n → Passable s t marks w.n 0

-- the locator just after a given one
abbrev pub just_after : types.TransactionLocator → TransactionLocator
just_after given = locator (as_locator given).block ((as_locator given).offset + 1)

-- no row is there or before, and none is passed; or those that are not after the first are
pub data Stood (s : Bytes) (t marks : List ℕ) (n : ℕ) (here : TransactionLocator) (marks' : List ℕ) (at : ℕ) : Type 0 where
  none_there : marks' ≡ marks → at ≡ 0 → (0 < n → locator_before here (key_of s (row_at t 0)) ≡ true) → Stood s t marks n here marks' at
  some_there : 0 < n → locator_before here (key_of s (row_at t 0)) ≡ false → Passed s t marks marks' n 0 at → Stood s t marks n here marks' at

pub record StoodAfter (s : Bytes) (t marks marks' : List ℕ) (w : Window) (given : types.TransactionLocator) (r : sweep.Sweep) : Type 0 where
  pub many : r.n ≡ w.n
  pub bound : r.bound ≡ w.bound
  pub here : as_locator r.here ≡ just_after given
  pub stood : Stood s t marks w.n (just_after given) marks' r.at

-- no range of any lane covers the locator
abbrev pub Bare : Lanes → TransactionLocator → Type 0
Bare lanes l = (k : ℕ) → k < 3072 → any_span (lanes k) l ≡ false

-- the sweep stands somewhere, and nothing covers a locator between the given one and that; it is after the given one, or at the last offset
pub record BegunAt (lanes : Lanes) (s : Bytes) (t marks : List ℕ) (after : Option TransactionLocator) (r : sweep.Sweep) : Type 0 where
  pub long : length marks ≡ 3072
  pub stands : Stands lanes s t marks r
  pub from : From after (as_locator r.here)
  pub later : (as_locator r.here).offset < 18446744073709551615 → is_after after (as_locator r.here) ≡ true
  pub bare : (m : TransactionLocator) → is_after after m ≡ true → locator_before m (as_locator r.here) ≡ true → Bare lanes m

unfoldable pub Begun : Lanes → Bytes → List ℕ → List ℕ → Option TransactionLocator → code.Option sweep.Sweep → Type 0
Begun lanes s t marks after (Some r) = BegunAt lanes s t marks after r
Begun lanes s t marks after None = (m : TransactionLocator) → is_after after m ≡ true → Bare lanes m
