-- What the last step of the check (10) decides: machinery for the contracts of the functions that it consists of. Assumes nothing: these are definitions.
use Rattle.std.specs.Prelude.{ℕ, Bool, false, List, [], ◌∷◌, ltb, eqb}
use Rattle.base.specs.Lists.{pick, holds}
use Rattle.base.specs.Checks.{passes}
use Rattle.committee.specs.Committee.{Committee}
use Rattle.record_spec.specs.Reference.{BlockReference}
use Rattle.store_spec.specs.Layout.{Record, used_by, Entry, lookup}
use Rattle.store_spec.specs.Accept.{block_checks}

-- a block of that reference stands before a position
unfoldable pub stored_before : List Entry → ℕ → BlockReference → Bool
stored_before es p i = holds (λ e. ltb e.position p) (lookup es i)

-- the record that stands at a position is accepted after those before it
unfoldable pub accepted_at : Committee → List Record → ℕ → Bool
accepted_at c [] p = false
accepted_at c (r ∷ older) p = pick (eqb (used_by older) p) (passes (block_checks c older r.block)) (accepted_at c older p)
