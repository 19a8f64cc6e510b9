-- Machinery for the contracts of inner functions: a run against several sources that have its offsets or begin past it. Assumes nothing: these
-- are definitions.
use Rattle.std.specs.Prelude.{ℕ, ◌<◌, List, Option, Some, None}
use Rattle.index_spec.specs.Runs.{Run}
use Rattle.index_spec.specs.Walk.{beyond}
use Rattle.index_pieces.specs.Sources.{named_by, Moved}
use Rattle.index_source_meeting.specs.Source.{Meets}
use Rattle.committee_set.specs.AuthoritySet.{AuthoritySet}

unfoldable pub MetAll : Run → List ℕ → ℕ → List ℕ → List ℕ → Option (AuthoritySet × AuthoritySet) → Type 0
MetAll x ws n cs₀ cs (Some (votes, after)) = x.start < x.end → Meets x (named_by ws cs₀ n) votes after × Moved ws n (beyond x.reference x.end) cs₀ cs
MetAll x ws n cs₀ cs None = Unit {0}
