-- A vote set at small values. Assumes nothing: these are definitions.
use Rattle.std.specs.Prelude.{◌≡◌, [], ◌∷◌}
use Rattle.committee_set.specs.AuthoritySet.{nobody, inserted, members, number_of_voters, stake_of}

pub record Claims : Type 0 where
  -- the last of the low word, the first and the last of the high one
  pub both_words : members (inserted (inserted (inserted nobody 127) 64) 63) ≡ 63 ∷ 64 ∷ 127 ∷ []
  -- an author put in again is there once
  pub once : number_of_voters (inserted (inserted nobody 2) 2) ≡ 1
  pub stake_once : stake_of (5 ∷ 3 ∷ 2 ∷ []) (inserted (inserted (inserted nobody 2) 0) 2) ≡ 7
