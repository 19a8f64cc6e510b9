-- Machinery for the contract of an inner function: an answer that can be told. Assumes nothing: these are definitions.
use Rattle.std.specs.Prelude.{ℕ, ◌≡◌}
use Rattle.base.specs.Checks.{Answer, answered}
use Rattle.ring_owners.specs.Ranked.{Ring}

-- where it is an answer there is room of n bytes for it
pub record Tellable (a : Answer Ring) (n : ℕ) : Type 0 where
  pub room : (g : Ring) → a ≡ answered g → n ≡ 24
