-- The certifying blocks one after the other, in either reading. Assumes nothing.
use mathlib.Core.Path.{◌≡◌}
use mathlib.Core.List.{List, map}
use Prim.Native.Nat.{ℕ}
use lib.ListN.{length}
use Rattle.base.specs.Le.{Bytes}
use Rattle.committee.specs.Committee.{Committee}
use Rattle.committee_set.specs.AuthoritySet.{AuthoritySet, set_of}
use Rattle.record_spec.specs.Reference.{TransactionLocator}
use Rattle.record_spec.specs.Block.{author}
use Rattle.final_spec.specs.Finality.{blocks_of}
use Rattle.final_block_votes.specs.Walk.{Sorted}
use Rattle.final_readings_spec.specs.Readings.{Reading, certifies_in, certifiers_in}
use Rattle.final_readings_spec.specs.Finality.{certifying_positions_in}
use Rattle.final_certifying.proofs.Finding.{found, found_all, Authors, authors_all}

module _ (reading : Reading) (c : Committee) (s : Bytes) (l : TransactionLocator) (order : List ℕ) (o : Sorted c s order) where
  pub certifying_all : found (certifies_in reading c (blocks_of s) l) s order (length order) ≡ certifying_positions_in reading c s l
  unfolding certifying_positions_in
  certifying_all = found_all (certifies_in reading c (blocks_of s) l) s c order o

  pub certifiers_all : (v : AuthoritySet) → Authors s (found (certifies_in reading c (blocks_of s) l) s order (length order)) v → v ≡ set_of
      (map author (certifiers_in reading c (blocks_of s) l))
  unfolding certifiers_in
  certifiers_all = authors_all c s order o (certifies_in reading c (blocks_of s) l)
