-- Machinery for the contracts of private functions: what stands at a position of a record. Assumes nothing: these are definitions.
use Rattle.std.specs.Prelude.{ℕ, suc, Bool, not, List, [], ◌∷◌}
use Rattle.base.specs.Lists.{pick}
use Rattle.record_spec.specs.Block as blocks

-- a statement is a share, where the flag is set, or is none, where it is not
unfoldable pub is_of_kind : Bool → blocks.Statement → Bool
is_of_kind shares s = pick (blocks.is_share s) shares (not shares)

-- how many statements of that kind stand in front
unfoldable pub leading : Bool → List blocks.Statement → ℕ
leading shares [] = 0
leading shares (s ∷ ss) = pick (is_of_kind shares s) (suc (leading shares ss)) 0
