-- A record that no refusal applies to: its votes end where offsets end, and its includes are stored. Assumes nothing.
use mathlib.Core.Path.{◌≡◌, ap, ◌∙◌}
use mathlib.Core.Bool.{true}
use mathlib.Core.List.{List, ◌∷◌}
use Prim.Native.Nat.{ℕ}
use native.Mathlib.Omega.{arith}
use Rattle.base.specs.Lists.{◌∈◌}
use Rattle.base.specs.Le.{Bytes}
use Rattle.base.specs.Checks.{passes}
use Rattle.base.proofs.Le.{AllBytes}
use Rattle.base.proofs.Tests.{and_both}
use Rattle.base.proofs.Members.{in_any, map_in}
use Rattle.committee.specs.Committee.{Committee}
use Rattle.committee.proofs.Bounds.{few_members, known_below}
use Rattle.record_spec.specs.Reference.{BlockReference, same_reference}
use Rattle.record_spec.specs.Block.{Block, author}
use Rattle.record_spec.specs.Record.{block_in}
use Rattle.record_spec.proofs.References.{same_reference_lem}
use Rattle.record_spec.proofs.Records.{block_of_lem, block_of_fits}
use Rattle.store_spec.specs.Store.{records_of, record_in, store_in_order}
use Rattle.store_spec.specs.Accept.{is_stored, block_checks, all_accepted}
use Rattle.store_spec.proofs.Store.{in_order_lem}
use Rattle.store_spec.proofs.Stored.{WellStored, stored}
use Rattle.store_spec.proofs.Accepted.{blocks, known_author, accepted_stored}
use Rattle.final_spec.specs.Finality.{blocks_of}
use Rattle.final_block_votes.proofs.Sorting.{some_committee}
use Rattle.feed_aggregator.specs.Step.{Feeding}
use Rattle.index_own_runs.specs.Own.{Voting}
use Rattle.index_check.specs.Known.{Rooted}
use Rattle.index_check.proofs.Fits.{ends_fit}
use Rattle.index_growth.specs.Growing.{Growing}
use Rattle.index_feed_refusals.specs.Step.{Agreed}

module _ (c : Committee) (s rec : Bytes) (t : List ℕ) (f : Feeding c s rec t) where
  votes_end : AllBytes rec → Voting rec
  votes_end bytes =
      record {
        formed = f.formed;
        author = omega (arith, few_members c f.committee, known_below c (author (block_in rec)) (known_author c (records_of s) (block_in rec) f.checks));
        ends = ends_fit (block_in rec) (block_of_fits rec (block_in rec) bytes (block_of_lem rec f.formed)) c (records_of s) f.checks;
      }

  accepted_next : store_in_order c s ≡ true → WellStored (block_in rec ∷ blocks (records_of s))
  unfolding all_accepted record_in
  accepted_next o =
      accepted_stored c (record_in rec ∷ records_of s) (unfold all_accepted record_in in and_both (passes (block_checks c (records_of s) (block_in rec)))
      (all_accepted c (records_of s)) f.checks (in_order_lem c s o).accepted)

  includes_stored : store_in_order c s ≡ true → Rooted s (blocks_of s) (block_in rec)
  unfolding blocks_of
  includes_stored o = go (accepted_next o)
    where
      is_stored_lem : (r : BlockReference) (d : Block) → d ∈ blocks (records_of s) → d.reference ≡ r → is_stored (records_of s) r ≡ true
      is_stored_lem r d m e =
          let q = map_in (λ x. x.block) (records_of s) m in
          unfold is_stored in
          in_any (λ x. same_reference x.block.reference r) q.1 (same_reference_lem (ap (λ (x : Block). x.reference) q.2 ∙ e))

      go : WellStored (block_in rec ∷ blocks (records_of s)) → Rooted s (blocks (records_of s)) (block_in rec)
      go (stored new found w) = record { found = found; stored = λ r m. let d = found r m in is_stored_lem r d.0 d.1 d.2 }

-- all that its part is worked out from
pub growing : (c : Committee) (s rec : Bytes) (t ix order starts : List ℕ) → Agreed c s t ix order starts → Feeding c s rec t → AllBytes rec → Growing s
    order starts ix rec
growing c s rec t ix order starts a f bytes =
    record {
      sorted = some_committee a.sorted;
      voting = votes_end c s rec t f bytes;
      agrees = a.agrees;
      known = a.known;
      rooted = includes_stored c s rec t f a.sorted.in_order;
    }
