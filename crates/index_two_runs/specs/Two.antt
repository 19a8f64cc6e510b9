-- Machinery for the contracts of inner functions: two runs, the second at the offsets of the first or at its end. Assumes nothing: these are
-- definitions.
use Rattle.std.specs.Prelude.{◌≡◌, List, [], ◌∷◌}
use Rattle.base.specs.Lists.{pick}
use Rattle.committee_set.specs.AuthoritySet.{AuthoritySet, nobody}
use Rattle.index_spec.specs.Runs.{Run, touches}

-- two runs are of the same offsets of one block
pub record SameOffsets (x y : Run) : Type 0 where
  pub of : x.reference ≡ y.reference
  pub start : x.start ≡ y.start
  pub end : x.end ≡ y.end

-- whom runs that begin past a run name at its end
unfoldable pub after_votes : Run → List Run → AuthoritySet
after_votes x [] = nobody
after_votes x (y ∷ ys) = pick (touches x y) y.votes nobody
