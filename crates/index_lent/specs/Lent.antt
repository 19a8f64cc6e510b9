-- Machinery for the contracts of inner functions: the used words of an index as it is lent, and what is known once a question with it is not refused.
-- Assumes nothing: these are definitions.
use Rattle.std.specs.Prelude.{ℕ, ◌≡◌, true, List, ltb, length, get_or}
use Rattle.base.specs.Lists.{pick}
use Rattle.base.specs.Le.{Bytes}
use Rattle.committee.specs.Committee.{Committee, total_stake}
use Rattle.final_spec.specs.Finality.{blocks_of}
use Rattle.final_block_votes.specs.Walk.{Sorted}
use Rattle.index_spec.specs.Index.{used_part, index_agrees}
use Rattle.index_check.specs.Known.{Known}

-- what the first word says, if there are so many; else none
unfoldable pub used_in : List ℕ → ℕ
used_in ix = pick (ltb (length ix) (get_or ix 0 0)) 0 (get_or ix 0 0)

-- the total stake, the sorted positions of the store, and where the part of each stands in the index, which agrees
pub record Asked (c : Committee) (s : Bytes) (ix : List ℕ) (total : ℕ) (order starts : List ℕ) : Type 0 where
  pub stake : total ≡ total_stake c
  pub sorted : Sorted c s order
  pub agrees : index_agrees (blocks_of s) ix ≡ true
  pub known : Known s order (used_part ix) starts (blocks_of s)
