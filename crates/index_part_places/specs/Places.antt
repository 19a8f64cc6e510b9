-- Machinery for the contracts of inner functions: a word put among others, and a block noted among those that are stored. Assumes nothing: these are
-- definitions.
use Rattle.std.specs.Prelude.{ℕ, ◌-◌, ◌≤◌, ◌<◌, ◌≡◌, List, length, get_or, take}
use Rattle.store_spec.specs.Layout.{Record}
use Rattle.store_spec.specs.Entry.{sorted_positions}

-- a word at a place among the first n, of which those from there on moved up by one
pub record PutIn (n place word : ℕ) (old new : List ℕ) : Type 0 where
  pub own : get_or new place 0 ≡ word
  pub below : (i : ℕ) → i < place → get_or new i 0 ≡ get_or old i 0
  pub above : (i : ℕ) → place < i → i ≤ n → get_or new i 0 ≡ get_or old (i - 1) 0
  pub long : length new ≡ length old

-- the positions of all records, and the starts of the parts with that of the block at a position in its place
pub record Noted (rs : List Record) (at part : ℕ) (order starts₀ starts : List ℕ) : Type 0 where
  pub sorted : take (length rs) order ≡ sorted_positions rs
  pub place : ℕ
  pub within : place < length (sorted_positions rs)
  pub found : get_or (sorted_positions rs) place 0 ≡ at
  pub put : PutIn (length (sorted_positions rs) - 1) place part starts₀ starts
