-- Whether a block certifies, in either reading. Assumes nothing.
use mathlib.Core.Path.{◌≡◌, ap}
use mathlib.Core.Bool.{Bool, true, false, not, ◌&&◌}
use mathlib.Core.List.{List}
use Prim.Native.Nat.{ℕ}
use lib.ListN.{get_or}
use Rattle.base.specs.Le.{Bytes}
use Rattle.base.proofs.Tests.{fails, not_both, and_left}
use Rattle.committee.specs.Committee.{Committee, is_quorum}
use Rattle.committee_set.specs.AuthoritySet.{AuthoritySet, stake_of, without}
use Rattle.record_spec.specs.Reference.{TransactionLocator}
use Rattle.record_spec.specs.Block.{Block}
use Rattle.store_spec.specs.Entry.{block_at}
use Rattle.final_spec.specs.Voters.{own_vote}
use Rattle.final_spec.specs.Finality.{blocks_of}
use Rattle.final_block_votes.specs.Walk.{block_at_place}
use Rattle.final_readings_spec.specs.Rejecting.{own_reject}
use Rattle.final_readings_spec.specs.Readings.{Reading, old, withdrawing, voters_in, certifies_in}
use Rattle.final_readings_spec.proofs.FinalsIn.{certifies_in_old}
use Rattle.final_voters.specs.Walk.{spoken_at}

module _ (c : Committee) (s : Bytes) (order : List ℕ) (l : TransactionLocator) (k : ℕ) where
  abbrev at : Block
  at = block_at s (get_or order k 0)

  -- the voters of the block decide
  pub certifies_old : (v : AuthoritySet) → v ≡ spoken_at own_vote s order l k → certifies_in old c (blocks_of s) l at ≡ not at.marked
      && is_quorum c (stake_of c v)
  unfolding certifies_in voters_in spoken_at block_at_place
  certifies_old v e = rw e

  -- where they do not hold quorum, it certifies in neither reading
  pub certifies_neither : (reading : Reading) → certifies_in old c (blocks_of s) l at ≡ false → certifies_in reading c (blocks_of s) l at ≡ false
  certifies_neither reading e = fails (certifies_in reading c (blocks_of s) l at) (λ h. not_both (certifies_in_old reading c (blocks_of s) l at h) e)

  -- where they do, those who do not reject decide
  pub certifies_new : (v w : AuthoritySet) → v ≡ spoken_at own_vote s order l k → w ≡ spoken_at own_reject s order l k → certifies_in old c (blocks_of s) l at
      ≡ true
      → certifies_in withdrawing c (blocks_of s) l at ≡ is_quorum c (stake_of c (without v w))
  unfolding certifies_in voters_in spoken_at block_at_place
  certifies_new v w e f h = rw (e, f) (ap (λ (t : Bool). t && is_quorum c
      (stake_of c (without (spoken_at own_vote s order l k) (spoken_at own_reject s order l k)))) (and_left (not at.marked) _ h))
