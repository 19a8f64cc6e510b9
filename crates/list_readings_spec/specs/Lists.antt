-- The wide and the ordinary list in both readings of a reject. Assumes nothing: these are definitions.
use Rattle.std.specs.Prelude.{ℕ, Bool, true, false, ◌&&◌}
use mathlib.Core.List.{List, ◌++◌, map, flatten}
use Rattle.std.proofs.Math.Option.{Option}
use Rattle.base.specs.Lists.{keep}
use Rattle.base.specs.Le.{Bytes}
use Rattle.base.specs.Checks.{Answer}
use Rattle.committee.specs.Committee.{Committee}
use Rattle.record_spec.specs.Reference.{BlockReference, TransactionLocator}
use Rattle.record_spec.specs.Block.{Block, spans}
use Rattle.store_spec.specs.Shares.{is_stored_share}
use Rattle.final_spec.specs.Finality.{blocks_of}
use Rattle.final_spec.specs.NextFinal.{is_after, least_locator}
use Rattle.list_stretches_spec.specs.Stretches.{Listing, edges_by}
use Rattle.list_stretches_spec.specs.Bulk.{list_next, AskedBulk, list_stretches}
use Rattle.final_readings_spec.specs.Readings.{Reading, old, withdrawing, certifies_in, is_final_in}
use Rattle.final_readings_spec.specs.NextFinal.{least_final_in, final_list_in, reject_edges}
use Rattle.list_ordinary_spec.specs.Shares.{shares_of}

-- which locators a list shows: 02: "final locators that name a stored share" the ordinary one, every final one the wide one
unfoldable pub is_listed : Bool → Reading → Committee → List Block → TransactionLocator → Bool
is_listed true reading c bs l = is_stored_share bs l && is_final_in reading c bs l
is_listed false reading c bs l = is_final_in reading c bs l

-- the least of them after a given locator, or from the start, or none
unfoldable pub least_listed : Bool → Reading → Committee → List Block → Option TransactionLocator → Option TransactionLocator
least_listed true reading c bs after = least_locator (keep (λ l. is_after after l && is_final_in reading c bs l) (flatten (map shares_of bs)))
least_listed false reading c bs after = least_final_in reading c bs after

-- where a vote for locators of a block begins and ends, and in the new reading a reject too
unfoldable pub list_edges : Reading → List Block → BlockReference → List ℕ
list_edges old bs r = edges_by spans bs r
list_edges withdrawing bs r = edges_by spans bs r ++ reject_edges bs r

-- 02: "This second reading is chosen by calls of its own for finality, both lists and slips": the ordinary list or the wide one, in a reading
unfoldable pub listing : Bool → Reading → Committee → List Block → Listing
listing ordinary reading c bs =
    record {
      shows = is_listed ordinary reading c bs;
      certifies = certifies_in reading c bs;
      next = least_listed ordinary reading c bs;
      edges = list_edges reading
          bs;
    }

-- every locator that a list shows, ascending
unfoldable pub all_listed : Bool → Reading → Committee → List Block → List TransactionLocator
all_listed true reading c bs = keep (is_stored_share bs) (final_list_in reading c bs)
all_listed false reading c bs = final_list_in reading c bs

-- ---- the questions over a store, with the refusals of the calls without a reading: 5, 10

abbrev pub next_listed : Bool → Reading → Committee → Bytes → Option TransactionLocator → Answer (Option TransactionLocator)
next_listed ordinary reading c s after = list_next c s (listing ordinary reading c (blocks_of s)) after

-- as many stretches as the slice holds
abbrev pub listed_stretches : Bool → Reading → Committee → Bytes → Bytes → Option TransactionLocator → AskedBulk
listed_stretches ordinary reading c s out after = list_stretches c s (listing ordinary reading c (blocks_of s)) out after
