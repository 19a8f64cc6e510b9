-- Machinery for the contracts of inner functions: runs that a part shares with its sources, passed without a merge. Assumes nothing: these are
-- definitions.
use Rattle.std.specs.Prelude.{ℕ, ◌+◌, ◌*◌, ◌≤◌, ◌≡◌, List, [], ◌∷◌, length, drop}
use Rattle.committee_set.specs.AuthoritySet.{AuthoritySet}
use Rattle.record_spec.specs.Reference.{TransactionLocator}
use Rattle.index_spec.specs.Runs.{Run}
use Rattle.index_spec.specs.Walk.{Place, beyond, NextRun, runs_from}
use Rattle.index_runs.specs.Values.{as_place}
use Rattle.index_pieces.specs.Sources.{Moved, together}
use Rattle.index_cursors.specs.Spots.{after}
use Rattle.index_shared.specs.declared.Common.{Common}

-- these are the next runs, one after the other from a place on, up to another place
pub data Nexts (f : TransactionLocator → AuthoritySet) : Place → List Run → Place → Type 0 where
  here : {p : Place} → Nexts f p [] p
  onward : {p q : Place} {x : Run} {xs : List Run} → NextRun f p x → Nexts f (beyond x.reference x.end) xs q → Nexts f p (x ∷ xs) q

-- k runs at a position are the next ones from a place on, and the cursors were moved past them
pub record RunsPassed (own ms ix : List ℕ) (n : ℕ) (cs₀ cs : List ℕ) (p : Place) (pos k : ℕ) : Type 0 where
  pub nexts : Nexts (together own ms ix cs₀ n) p (runs_from k (drop pos ix)) (after p (runs_from k (drop pos ix)))
  pub moved : Moved ix n (after p (runs_from k (drop pos ix))) cs₀ cs

-- runs that the sources share were passed, as they stand in the index
pub record CommonPassed (own ms ix : List ℕ) (n : ℕ) (cs₀ cs : List ℕ) (p : Place) (r : Common) : Type 0 where
  pub inside : r.pos + 10 * r.runs ≤ length ix
  pub passed : RunsPassed own ms ix n cs₀ cs p r.pos r.runs
  pub place : as_place r.place ≡ after p (runs_from r.runs (drop r.pos ix))
