-- What the chain is, as claims. Assumes nothing: these are definitions.
use Rattle.std.specs.Prelude.{ℕ, ◌≡◌, ◌↔◌, true, List, take, drop}
use Rattle.std.proofs.Math.Option.{some}
use Rattle.base.specs.Lists.{◌∈◌}
use Rattle.base.specs.Le.{Bytes}
use Rattle.stakes_chain.specs.Layout.{well_sized, place, first_index, in_file}
use Rattle.stakes_chain.specs.Chain.{Chained, chain_of}

-- the chain that is worked out is the one that 02 wants, and there is one exactly where it is worked out
unfoldable pub ChainMeant : Type 0
ChainMeant = (f : Bytes) (is : List ℕ) → (chain_of f ≡ some is) ↔ Chained f is

-- a file has one chain at most
unfoldable pub OneChain : Type 0
OneChain = (f : Bytes) (is js : List ℕ) → Chained f is → Chained f js → is ≡ js

-- a file g with the records of f's chain at their places, whatever stands elsewhere and however many records there are
pub record SameOnChain (f g : Bytes) (is : List ℕ) : Type 0 where
  pub sized : well_sized g ≡ true
  pub first : first_index f ≡ first_index g
  pub inside : (i : ℕ) → i ∈ is → in_file g i ≡ true
  pub records : (i : ℕ) → i ∈ is → take 26 (drop (place i) f) ≡ take 26 (drop (place i) g)

-- records off the chain do not change it
unfoldable pub OffChain : Type 0
OffChain = (f g : Bytes) (is : List ℕ) → Chained f is → SameOnChain f g is → Chained g is

pub record Claims : Type 0 where
  pub chain : ChainMeant
  pub one_chain : OneChain
  pub off_chain : OffChain
