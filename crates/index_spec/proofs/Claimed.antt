-- The claims about the index hold. Assumes nothing.
use Rattle.final_spec.proofs.Claimed.{well_stored}
use Rattle.index_spec.specs.Claims.{OneList, LongestRuns, MergedNames, MergedRuns, PartMeant, RunsVoted, IndexedBlocks, IndexedParts, IndexFresh}
use Rattle.index_spec.specs.Claims.{IndexGrows, IndexAppends, IndexHolds, IndexKept, IndexFed, CertifiedMeant, FinalByIndex, Claims}
use Rattle.index_spec.proofs.Relation.{one_list_lem, longest_runs_lem}
use Rattle.index_spec.proofs.Ascending.{merged_names_lem, merged_runs_lem}
use Rattle.index_spec.proofs.Parts.{part_runs}
use Rattle.index_spec.proofs.Fitting.{run_voters, at_least_one}
use Rattle.index_spec.proofs.Grown.{index_fresh, index_grows, index_appends, holding_agrees, index_kept, indexed_blocks_lem, index_parts}
use Rattle.index_spec.proofs.Checking.{fed_index}
use Rattle.index_spec.proofs.Certifying.{certified_runs, certified_final}

pub claimed : Claims
unfolding OneList LongestRuns MergedNames MergedRuns PartMeant RunsVoted IndexedBlocks IndexedParts IndexFresh IndexGrows IndexAppends IndexHolds IndexKept
    IndexFed CertifiedMeant FinalByIndex
claimed =
    record {
      one_list = one_list_lem;
      longest_runs = longest_runs_lem;
      merged_names = merged_names_lem;
      merged_runs = merged_runs_lem;
      part = λ bs b. part_runs bs b.reference;
      runs = λ c bs h b m x n o f k. record { voters = run_voters c bs h b m x n o f k; one = at_least_one c bs h b m x n o f k };
      indexed_blocks = indexed_blocks_lem;
      indexed_parts = λ c bs h. index_parts (well_stored c bs h);
      fresh = index_fresh;
      grows = index_grows;
      appends = index_appends;
      holds = holding_agrees;
      kept = λ bs ix k. index_kept k;
      fed = fed_index;
      certified = λ c bs h. certified_runs c (well_stored c bs h);
      final = λ c bs h. certified_final c (well_stored c bs h);
    }
