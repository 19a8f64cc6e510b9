-- Machinery for the contracts of inner functions: the part of a record that is fed. Assumes nothing: these are definitions.
use Rattle.std.specs.Prelude.{ℕ, ◌≡◌, true, false, List, ◌∷◌, Result, Ok, Err}
use Rattle.base.specs.Le.{Bytes}
use Rattle.base.specs.Refusals.{refusal_number}
use Rattle.base.specs.declared.refusal.Refusal.{Refusal}
use Rattle.record_spec.specs.Record.{block_in}
use Rattle.final_spec.specs.Finality.{blocks_of}
use Rattle.final_block_votes.specs.Walk.{SortedStore}
use Rattle.index_spec.specs.Runs.{Run}
use Rattle.index_spec.specs.Part.{part_in}
use Rattle.index_spec.specs.Index.{used_part, index_agrees, index_short, appended}
use Rattle.index_own_runs.specs.Own.{Voting}
use Rattle.index_check.specs.Known.{Known, Rooted}

-- the part of a record that is fed
unfoldable pub new_part : Bytes → Bytes → List Run
new_part s rec = part_in (block_in rec ∷ blocks_of s) (block_in rec).reference

-- an index that agrees, with the places of its parts, and a record whose includes are stored
pub record Growing (s : Bytes) (order starts ix : List ℕ) (rec : Bytes) : Type 0 where
  pub sorted : SortedStore s order
  pub voting : Voting rec
  pub agrees : index_agrees (blocks_of s) ix ≡ true
  pub known : Known s order (used_part ix) starts (blocks_of s)
  pub rooted : Rooted s (blocks_of s) (block_in rec)

-- there is room for the part, and it was appended; or there is none (55), and nothing changed
unfoldable pub Grew : Bytes → List ℕ → Bytes → List ℕ → Result (Unit {0}) Refusal → Type 0
Grew s ix₀ rec ix (Ok u) = (index_short (block_in rec ∷ blocks_of s) ix₀ ≡ false) × (ix ≡ appended ix₀ (new_part s rec))
Grew s ix₀ rec ix (Err r) = (index_short (block_in rec ∷ blocks_of s) ix₀ ≡ true) × (ix ≡ ix₀) × (refusal_number r ≡ 55)
