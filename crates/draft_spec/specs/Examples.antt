-- Accepts joined, by example. Assumes nothing: these are definitions.
use Rattle.std.specs.Prelude.{◌≡◌, [], ◌∷◌, ℕ}
use Rattle.record_spec.specs.Reference.{BlockReference, locator, new_range}
use Rattle.record_spec.specs.Block.{Statement, share, accept, vote_range}
use Rattle.draft_spec.specs.Joining.{joined}

-- blocks of round 5, by their authors
abbrev pub ref : ℕ → BlockReference
ref a = record { authority = a; round = 5; digest = [] }

abbrev pub vote : ℕ → ℕ → Statement
vote a o = accept (locator (ref a) o)

abbrev pub votes : ℕ → ℕ → ℕ → Statement
votes a start end = vote_range (new_range (ref a) start end)

pub record Examples : Type 0 where
  -- "a lone accept stays a vote"
  pub lone : joined (vote 1 3 ∷ []) ≡ vote 1 3 ∷ []
  pub two : joined (vote 1 3 ∷ vote 1 4 ∷ []) ≡ votes 1 3 5 ∷ []
  -- "as far as its end stays below 1,048,576"
  pub below : joined (vote 1 1048573 ∷ vote 1 1048574 ∷ vote 1 1048575 ∷ []) ≡ votes 1 1048573 1048575 ∷ vote 1 1048575 ∷ []
  pub past : joined (vote 1 1048575 ∷ vote 1 1048576 ∷ []) ≡ vote 1 1048575 ∷ vote 1 1048576 ∷ []
  -- "for one block, each offset one above the last"
  pub other : joined (vote 1 3 ∷ vote 2 4 ∷ []) ≡ vote 1 3 ∷ vote 2 4 ∷ []
  pub gap : joined (vote 1 3 ∷ vote 1 5 ∷ []) ≡ vote 1 3 ∷ vote 1 5 ∷ []
  pub falling : joined (vote 1 4 ∷ vote 1 3 ∷ []) ≡ vote 1 4 ∷ vote 1 3 ∷ []
  -- "follow each other"; "a given range a range"
  pub between : joined (vote 1 3 ∷ share [] ∷ vote 1 4 ∷ []) ≡ vote 1 3 ∷ share [] ∷ vote 1 4 ∷ []
  pub given : joined (vote 1 7 ∷ votes 1 8 10 ∷ vote 1 10 ∷ vote 1 11 ∷ []) ≡ vote 1 7 ∷ votes 1 8 10 ∷ votes 1 10 12 ∷ []
