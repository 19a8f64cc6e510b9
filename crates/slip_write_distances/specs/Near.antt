-- Machinery for the contracts of inner functions: distances in tables of 128 words for each place. Assumes nothing: these are definitions.
use Rattle.std.specs.Prelude.{ℕ, suc, ◌+◌, ◌*◌, ◌≤◌, ◌<◌, ◌≡◌, List, length, get_or}
use Rattle.std.proofs.Math.Option.{Option, none, some}
use Rattle.base.specs.Le.{Bytes}
use Rattle.committee.specs.Committee.{AuthorityIndex}
use Rattle.record_spec.specs.Reference.{BlockReference, TransactionLocator}
use Rattle.final_spec.specs.Finality.{blocks_of}
use Rattle.final_block_votes.specs.Walk.{block_at_place}
use Rattle.slip_spec.specs.Paths.{distance, is_away, first_place}
use Rattle.slip_spec.specs.Reading.{votes_as}

-- how far a stored block is from the nearest vote of an author
unfoldable pub away : Bytes → TransactionLocator → AuthorityIndex → BlockReference → Option ℕ
away s l a r = distance (votes_as l a) (blocks_of s) r

-- a distance as a word: 0 where there is none
unfoldable pub word : Option ℕ → ℕ
word none = 0
word (some n) = suc n

-- the rows of the blocks at the first n places: each distance, and the index of the first include that is one nearer
pub record Distances (s : Bytes) (order : List ℕ) (l : TransactionLocator) (near steps : List ℕ) (n : ℕ) : Type 0 where
  pub long : length near ≡ 131072
  pub long_steps : length steps ≡ 131072
  pub known : (k : ℕ) → k < n → (a : ℕ) → a < 128 → get_or near (128 * k + a) 0 ≡ word (away s l a (block_at_place s order k).reference)
  pub led : (k : ℕ) → k < n → (a : ℕ) → a < 128 → (m : ℕ) → away s l a (block_at_place s order k).reference ≡ some (suc m)
      → get_or steps (128 * k + a) 0 ≡ first_place (λ i. is_away m (away s l a i)) (block_at_place s order k).includes
  pub fresh : (x : ℕ) → 128 * n ≤ x → get_or near x 0 ≡ 0
