-- Marks that are right for a locator, and a sweep over the edges in ascending order that stands at one. Assumes nothing: these are definitions.
use Rattle.std.specs.Prelude.{ℕ, ◌≤◌, ◌<◌, ◌≡◌, Bool, true, false, eqb, length, get_or}
use mathlib.Core.List.{List, [], ◌∷◌, map, flatten}
use Rattle.std.proofs.Math.Option.{Option, some}
use Rattle.base.specs.Lists.{keep, count_from}
use Rattle.base.specs.Le.{Bytes}
use Rattle.record_spec.specs.Reference.{TransactionLocator, locator, locator_before}
use Rattle.types.specs.Values.{as_locator, as_maybe}
use Rattle.final_block_votes.specs.Walk.{SortedStore}
use Rattle.list_order.specs.Row.{is_after_best}
use Rattle.list_row_sort.specs.Rows.{row_at, rows_of, key_of}
use Rattle.list_edge_rows.specs.Edges.{of_place, last_begins}
use Rattle.list_reach.specs.Reach.{From}
use Rattle.list_kind_ranges.specs.Kinds.{any_span}
use Rattle.list_lanes.specs.Lanes.{Lanes}
use Rattle.list_window.specs.Window.{said_at, Gathered}
use Rattle.list_sweep.specs.declared.Sweep as sweep

-- a lane is marked exactly where one of its ranges covers the locator
unfoldable pub MarksAt : Lanes → List ℕ → TransactionLocator → Type 0
MarksAt lanes marks l = (k : ℕ) → k < 3072 → eqb (get_or marks k 0) 1 ≡ any_span (lanes k) l

-- every row of a window that is not passed is after the locator, and so is no locator up to which the window is whole
pub record Clear (s : Bytes) (t : List ℕ) (n : ℕ) (bound : Option TransactionLocator) (at : ℕ) (l : TransactionLocator) : Type 0 where
  pub rows : (j : ℕ) → at ≤ j → j < n → locator_before l (key_of s (row_at t j)) ≡ true
  pub short : is_after_best bound l ≡ false

-- the marks are those of the last edges among the first rows of a table, or without one what held before
unfoldable pub Swept : (ℕ → Bool) → List ℕ → List ℕ → ℕ → Type 0
Swept was t marks at = (k : ℕ) → k < 3072 → eqb (get_or marks k 0) 1 ≡ last_begins (was k) (keep (of_place k) (rows_of t at))

-- a window of which the first rows are passed; the marks are right from a locator on up to the next edge
pub record Standing (lanes : Lanes) (s : Bytes) (t marks : List ℕ) (n : ℕ) (bound : Option TransactionLocator) (at : ℕ) (here : Option TransactionLocator) :
    Type 0 where
  pub last : Option TransactionLocator
  pub gathered : Gathered lanes s last bound t n
  pub inside : at ≤ n
  pub swept : Swept (λ k. said_at (lanes k) last) t marks at
  pub clear : (h : TransactionLocator) → here ≡ some h → Clear s t n bound at h
  pub right : (l : TransactionLocator) → From here l → Clear s t n bound at l → MarksAt lanes marks l

-- the same of where a sweep stands
abbrev pub Stands : Lanes → Bytes → List ℕ → List ℕ → sweep.Sweep → Type 0
Stands lanes s t marks w = Standing lanes s t marks w.n (as_maybe w.bound) w.at (some (as_locator w.here))

-- what the sweep is lent: a store with its positions, a table of 5,462 rows, and a mark for each lane
pub record Room (s : Bytes) (order t marks : List ℕ) : Type 0 where
  pub sorted : SortedStore s order
  pub wide : length t ≡ 16386
  pub long : length marks ≡ 3072

-- every locator at which a range of a lane begins or ends
unfoldable pub edge_locators : Lanes → List TransactionLocator
edge_locators lanes = flatten (map (λ k. flatten (map (λ q. locator q.block q.start ∷ locator q.block q.end ∷ []) (lanes k))) (count_from 0 3072))
