-- Machinery for the contracts of inner functions: where a part's words are held against its sources, before some runs and after them. Assumes
-- nothing: these are definitions.
use Rattle.std.specs.Prelude.{ℕ, ◌+◌, ◌*◌, ◌≡◌, List, [], ◌∷◌, drop}
use Rattle.index_spec.specs.Runs.{Run}
use Rattle.index_spec.specs.Walk.{Place, beyond, runs_from}
use Rattle.index_runs.specs.Values.{as_place}
use Rattle.index_cursors.specs.declared.Spot.{Spot}

-- the place at the end of the last of some runs
unfoldable pub after : Place → List Run → Place
after p [] = p
after p (x ∷ xs) = after (beyond x.reference x.end) xs

-- a spot after k runs at another
pub record SpotAfter (ix : List ℕ) (s : Spot) (k : ℕ) (r : Spot) : Type 0 where
  pub place : as_place r.place ≡ after (as_place s.place) (runs_from k (drop s.pos ix))
  pub pos : r.pos ≡ s.pos + 10 * k
  pub left : r.left + k ≡ s.left
