-- What it is for owners to hold quorum stake, as a relation. Assumes nothing: these are definitions.
use Rattle.std.specs.Prelude.{◌*◌, ◌<◌, List, map}
use Rattle.base.specs.Lists.{sum_of, ◌∈◌, Once}
use Rattle.committee.specs.Committee.{AuthorityIndex, Committee, total_stake, get_stake}

-- the owners in a set hold quorum stake: owners of the set, each once, whose stakes sum to s with 3s > 2T
pub record HoldQuorum (c : Committee) (In : AuthorityIndex → Type 0) : Type 0 where
  pub owners : List AuthorityIndex
  pub once : Once owners
  pub in_set : (a : AuthorityIndex) → a ∈ owners → In a
  pub quorum : 2 * total_stake c < 3 * sum_of (map (get_stake c) owners)
