-- Machinery for the contracts of inner functions: what is known once committee, store, table and index are in order. Assumes nothing: these are definitions.
use Rattle.std.specs.Prelude.{ℕ, ◌≡◌, true, List}
use Rattle.base.specs.Le.{Bytes}
use Rattle.base.specs.Checks.{refusal}
use Rattle.committee.specs.Committee.{Committee}
use Rattle.store_spec.specs.Entry.{laid_out}
use Rattle.feed_spec.specs.Pending.{pending_checks}
use Rattle.final_spec.specs.Finality.{blocks_of}
use Rattle.final_block_votes.specs.Walk.{Sorted}
use Rattle.index_spec.specs.Index.{used_part, index_agrees}
use Rattle.index_check.specs.Known.{Known}

-- the sorted positions of the store, and where the part of each stands in the index, which agrees
pub record Agreed (c : Committee) (s : Bytes) (t ix order starts : List ℕ) : Type 0 where
  pub lent : refusal (pending_checks c s t) ≡ 0
  pub laid : laid_out s ≡ true
  pub sorted : Sorted c s order
  pub agrees : index_agrees (blocks_of s) ix ≡ true
  pub known : Known s order (used_part ix) starts (blocks_of s)
