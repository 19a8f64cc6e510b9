-- A small case, evaluated. Assumes nothing.
use mathlib.Core.Path.{◌≡◌, refl}
use mathlib.Core.Bool.{false}
use mathlib.Core.List.{List, [], ◌∷◌, map}
use Prim.Native.Nat.{ℕ}
use Rattle.record_spec.specs.Reference.{BlockReference, new_range, locator}
use Rattle.record_spec.specs.Block.{Block, share, accept, vote_range}
use Rattle.index_spec.specs.Index.{indexed}
use Rattle.sorted_spec.specs.Sorted.{reply_words, replies_after}
use Rattle.sorted_spec.proofs.Computing.{computing}

-- block k of a round
named : ℕ → ℕ → BlockReference
named round k = record { authority = k; round = round; digest = k ∷ [] }

r : BlockReference
r = named 1 0

-- four owners of stake 1: block 0 of round 1 shares twice; 1 and 2 of round 2 include it and vote; 0 of round 3 includes these
blocks : List Block
blocks =
    record { reference = named 3 0; marked = false; includes = named 2 1 ∷ named 2 2 ∷ []; statements = [] }
    ∷ record { reference = named 2 2; marked = false; includes = r ∷ []; statements = accept (locator r 1) ∷ [] }
    ∷ record { reference = named 2 1; marked = false; includes = r ∷ []; statements = vote_range (new_range r 0 2) ∷ [] }
    ∷ record { reference = r; marked = false; includes = []; statements = share [] ∷ share [] ∷ [] }
    ∷ []

-- one certificate for the second share: its author is told, and no quorum
replies : map reply_words (replies_after (1 ∷ 1 ∷ 1 ∷ 1 ∷ []) (locator r 0 ∷ locator r 1 ∷ locator r 1 ∷ []) (indexed blocks))
    ≡ (0 ∷ 0 ∷ 0 ∷ []) ∷ (0 ∷ 1 ∷ 0 ∷ []) ∷ (0 ∷ 1 ∷ 0 ∷ []) ∷ []
unfolding computing named r blocks
replies = refl
