-- Machinery for the contracts of inner functions: runs in a row of which none goes on with the one before it. Assumes nothing: these are
-- definitions.
use Rattle.std.specs.Prelude.{ℕ, ◌+◌, ◌*◌, ◌<◌, ◌≡◌, List, drop}
use Rattle.index_spec.specs.Walk.{run_from}

-- the second of two runs begins at the offset where the first ends, with the same voters
pub record GoesOn (ix : List ℕ) (at : ℕ) : Type 0 where
  pub offset : (run_from (drop at ix)).end ≡ (run_from (drop (at + 10) ix)).start
  pub voters : (run_from (drop at ix)).votes ≡ (run_from (drop (at + 10) ix)).votes

-- none of k runs goes on with the one before it
unfoldable pub Apart : List ℕ → ℕ → ℕ → Type 0
Apart ix pos k = (i : ℕ) → i + 1 < k → GoesOn ix (pos + 10 * i) → ⊥
