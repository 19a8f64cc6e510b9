-- Machinery for the contracts of inner functions: a run against sources that have its offsets or begin past it. Assumes nothing: these are definitions.
use Rattle.std.specs.Prelude.{ℕ, ◌<◌, ◌≡◌, List}
use Rattle.committee_set.specs.AuthoritySet.{AuthoritySet, nobody}
use Rattle.index_spec.specs.Runs.{Run}
use Rattle.index_spec.specs.Walk.{Place, beyond, At, NextRun}
use Rattle.index_pieces.specs.Sources.{Moved, together}

-- a run from a place on is not empty, has these voters, at least one, and others at its end
pub record NextIf (x : Run) (p : Place) (votes after : AuthoritySet) : Type 0 where
  pub full : x.start < x.end
  pub same : x.votes ≡ votes
  pub voted : votes ≡ nobody → ⊥
  pub other : after ≡ votes → ⊥
  pub there : At p x.reference x.start

-- a run is the next one from a place on, and the cursors were moved past it
pub record Passed (own ms₀ ms ix : List ℕ) (n : ℕ) (cs₀ cs : List ℕ) (p : Place) (x : Run) : Type 0 where
  pub next : NextRun (together own ms₀ ix cs₀ n) p x
  pub parts : Moved ix n (beyond x.reference x.end) cs₀ cs
  pub mine : Moved own 1 (beyond x.reference x.end) ms₀ ms
