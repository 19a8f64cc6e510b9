-- Machinery for the contracts of inner functions: the part that some sources make, held against words and counted.
-- Assumes nothing: these are definitions.
use Rattle.std.specs.Prelude.{ℕ, ◌+◌, ◌*◌, ◌≤◌, ◌<◌, ◌≡◌, true, List, ◌++◌, length, drop}
use Rattle.std.proofs.Math.Option.{Option, none, some}
use Rattle.record_spec.specs.Reference.{TransactionLocator}
use Rattle.index_spec.specs.Runs.{Run}
use Rattle.index_spec.specs.Index.{run_words, part_words}
use Rattle.index_spec.specs.Walk.{Place, beyond, At, NextRun, runs_from}
use Rattle.index_runs.specs.Values.{as_place, starts_with}
use Rattle.index_pieces.specs.Sources.{Ready, together}
use Rattle.index_shared.specs.Shared.{Nexts}
use Rattle.index_cursors.specs.declared.Spot.{Spot}
use Rattle.std.specs.Prelude.{None, Some}
use Rattle.std.specs.declared.option.Option as code

-- a run is the next one from a place on; the cursors were moved, and name the same from its end on
pub record RunPassed (own ms₀ ms ix : List ℕ) (n : ℕ) (cs₀ cs : List ℕ) (p : Place) (x : Run) : Type 0 where
  pub next : NextRun (together own ms₀ ix cs₀ n) p x
  pub long : length cs ≡ length cs₀
  pub own_long : length ms ≡ length ms₀
  pub ready : Ready ix cs n
  pub own_ready : Ready own ms 1
  pub told : (l : TransactionLocator) → At (beyond x.reference x.end) l.block l.offset → together own ms ix cs n l ≡ together own ms₀ ix cs₀ n l

-- the next run from a place on stands at a position and was passed; or it does not stand there
unfoldable pub StandsNext : List ℕ → List ℕ → List ℕ → List ℕ → ℕ → List ℕ → List ℕ → Place → ℕ → Option Run → Type 0
StandsNext own ms₀ ms ix n cs₀ cs p pos (some x) = RunPassed own ms₀ ms ix n cs₀ cs p x × (starts_with (run_words x) (drop pos ix) ≡ true)
StandsNext own ms₀ ms ix n cs₀ cs p pos none = (y : Run) → NextRun (together own ms₀ ix cs₀ n) p y → starts_with (run_words y) (drop pos ix) ≡ true → ⊥

-- a run that stands at a spot and those after it that the sources share were passed, up to another spot
pub record StoodOver (own ms₀ ms ix : List ℕ) (n : ℕ) (cs₀ cs : List ℕ) (s r : Spot) : Type 0 where
  pub first : Run
  pub more : ℕ
  pub stands : starts_with (run_words first) (drop s.pos ix) ≡ true
  pub next : NextRun (together own ms₀ ix cs₀ n) (as_place s.place) first
  pub nexts : Nexts (together own ms₀ ix cs₀ n) (beyond first.reference first.end) (runs_from more (drop (s.pos + 10) ix)) (as_place r.place)
  pub pos : r.pos ≡ s.pos + 10 * (more + 1)
  pub left : r.left + (more + 1) ≡ s.left
  pub long : length cs ≡ length cs₀
  pub own_long : length ms ≡ length ms₀
  pub ready : Ready ix cs n
  pub own_ready : Ready own ms 1
  pub told : (l : TransactionLocator) → At (as_place r.place) l.block l.offset → together own ms ix cs n l ≡ together own ms₀ ix cs₀ n l

unfoldable pub StandsOn : List ℕ → List ℕ → List ℕ → List ℕ → ℕ → List ℕ → List ℕ → Spot → code.Option Spot → Type 0
StandsOn own ms₀ ms ix n cs₀ cs s (Some r) = StoodOver own ms₀ ms ix n cs₀ cs s r
StandsOn own ms₀ ms ix n cs₀ cs s None = (y : Run) → NextRun (together own ms₀ ix cs₀ n) (as_place s.place) y → starts_with (run_words y)
    (drop s.pos ix) ≡ true → ⊥

-- the part stands there and ends so; or it does not stand there
unfoldable pub Compared : List ℕ → ℕ → List Run → code.Option ℕ → Type 0
Compared ix at xs (Some e) = (e ≡ at + length (part_words xs)) × ((e ≤ length ix) × (drop at ix ≡ part_words xs ++ drop e ix))
Compared ix at xs None = (rest : List ℕ) → drop at ix ≡ part_words xs ++ rest → ⊥

-- the number of its runs; or there are more
unfoldable pub Counted : ℕ → List Run → code.Option ℕ → Type 0
Counted most xs (Some k) = (k ≤ most) × (length xs ≡ k)
Counted most xs None = most < length xs
