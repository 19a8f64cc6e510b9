-- Small cases, evaluated. Assumes nothing.
use mathlib.Core.Path.{◌≡◌, refl}
use mathlib.Core.Bool.{false}
use mathlib.Core.List.{List, [], ◌∷◌, map}
use Prim.Native.Nat.{ℕ}
use lib.ListN.{length}
use Rattle.committee_set.specs.AuthoritySet.{AuthoritySet}
use Rattle.record_spec.specs.Reference.{BlockReference, new_range, locator}
use Rattle.record_spec.specs.Block.{Block, share, accept, vote_range}
use Rattle.index_spec.specs.Runs.{run, merged}
use Rattle.index_spec.specs.Index.{indexed, index_words}
use Rattle.index_spec.proofs.Computing.{computing}

-- block k of a round
named : ℕ → ℕ → BlockReference
named round k = record { authority = k; round = round; digest = k ∷ [] }

-- the voters with these bits
bits : ℕ → AuthoritySet
bits n = record { low = n; high = 0 }

r : BlockReference
r = named 1 0

-- a vote inside a run cuts it
inside : merged (run r 0 8 (bits 1) ∷ []) (run r 3 5 (bits 2) ∷ []) ≡ run r 0 3 (bits 1) ∷ run r 3 5 (bits 3) ∷ run r 5 8 (bits 1) ∷ []
unfolding computing named bits r
inside = refl

-- the same voters again change nothing, and touching runs of the same voters are one
together : merged (run r 0 8 (bits 1) ∷ []) (run r 3 5 (bits 1) ∷ run r 8 9 (bits 1) ∷ []) ≡ run r 0 9 (bits 1) ∷ []
unfolding computing named bits r
together = refl

-- other voters, or another block, are not; empty runs and runs of nobody say nothing
apart : merged (run (named 2 0) 0 1 (bits 1) ∷ run r 4 4 (bits 1) ∷ run r 5 6 (bits 0) ∷ []) (run r 0 1 (bits 1) ∷ run r 1 2 (bits 2) ∷ [])
    ≡ run r 0 1 (bits 1) ∷ run r 1 2 (bits 2) ∷ run (named 2 0) 0 1 (bits 1) ∷ []
unfolding computing named bits r
apart = refl

-- four owners of stake 1: block 0 of round 1 shares twice; 1 and 2 of round 2 include it and vote; 0 of round 3 includes these
blocks : List Block
blocks =
    record { reference = named 3 0; marked = false; includes = named 2 1 ∷ named 2 2 ∷ []; statements = [] }
    ∷ record { reference = named 2 2; marked = false; includes = r ∷ []; statements = accept (locator r 1) ∷ [] }
    ∷ record { reference = named 2 1; marked = false; includes = r ∷ []; statements = vote_range (new_range r 0 2) ∷ [] }
    ∷ record { reference = r; marked = false; includes = []; statements = share [] ∷ share [] ∷ [] }
    ∷ []

parts : map (λ x. x.runs) (indexed blocks)
    ≡ (run r 0 1 (bits 3) ∷ run r 1 2 (bits 7) ∷ [])
    ∷ (run r 0 1 (bits 1) ∷ run r 1 2 (bits 5) ∷ [])
    ∷ (run r 0 2 (bits 3) ∷ [])
    ∷ (run r 0 2 (bits 1) ∷ [])
    ∷ []
unfolding computing named bits r blocks
parts = refl

-- used, then 1 and 10 words, 1 and 10, 1 and 20, 1 and 20
used : length (index_words blocks) ≡ 65
unfolding computing named bits r blocks
used = refl
