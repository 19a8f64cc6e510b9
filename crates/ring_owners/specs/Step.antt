-- Machinery for the contracts of private functions. Assumes nothing: these are definitions.
use Rattle.std.specs.Prelude.{◌≡◌, ◌⊎◌, true, List}
use Rattle.base.specs.Lists.{◌∈◌}
use Rattle.committee.specs.Committee.{AuthorityIndex, Committee}
use Rattle.ring_owners.specs.Ranked.{ahead}

-- the owner h of a list is ahead of all others
pub record First (c : Committee) (xs : List AuthorityIndex) (h : AuthorityIndex) : Type 0 where
  pub among : h ∈ xs
  pub leads : (y : AuthorityIndex) → y ∈ xs → (y ≡ h) ⊎ (ahead c h y ≡ true)
