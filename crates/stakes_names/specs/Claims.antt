-- What good names are, as claims. Assumes nothing: these are definitions.
use Rattle.std.specs.Prelude.{ℕ, ◌≡◌, ◌↔◌, true, List, map}
use Rattle.base.specs.Lists.{Once}
use Rattle.base.specs.Le.{Bytes}
use Rattle.stakes_names.specs.Names.{name_at, Named, good_name, WellNamed, good_names}

unfoldable pub NameMeant : Type 0
NameMeant = (n : Bytes) → (good_name n ≡ true) ↔ Named n

-- of the names along a chain, which has no index twice
unfoldable pub NamesMeant : Type 0
NamesMeant = (f : Bytes) (is : List ℕ) → Once is → (good_names (map (name_at f) is) ≡ true) ↔ WellNamed f is

pub record Claims : Type 0 where
  pub name : NameMeant
  pub names : NamesMeant
