-- The claims about the two readings. Assumes nothing.
use mathlib.Core.Path.{◌≡◌, refl, ap}
use mathlib.Core.List.{◌++◌, map}
use lib.ListN.{length, drop}
use Rattle.base.specs.Lists.{pick, keep}
use Rattle.base.specs.Checks.{passes, checked}
use Rattle.record_spec.specs.Reference.{TransactionLocator, locator}
use Rattle.store_spec.specs.Layout.{entries, ascending}
use Rattle.store_spec.specs.Store.{records_of}
use Rattle.final_spec.specs.Voters.{certifies, certifiers, is_final}
use Rattle.final_spec.specs.Finality.{blocks_of, certifying_positions, finality_checks, finality}
use Rattle.final_spec.specs.NextFinal.{least_final, next_final_checks, next_final, final_list}
use Rattle.final_spec.proofs.Ancestors.{ancestor_stored}
use Rattle.final_spec.proofs.Claimed.{well_stored, small_authors}
use Rattle.final_readings_spec.specs.Readings.{old, withdrawing, voters_in, certifies_in, certifiers_in, is_final_in}
use Rattle.final_readings_spec.specs.Finality.{certifying_positions_in, finality_in}
use Rattle.final_readings_spec.specs.NextFinal.{candidates_in, least_final_in, next_final_in, final_list_in}
use Rattle.final_readings_spec.specs.Claims.{OldReading, RejectersMeant, VotersInMeant, FinalInMeant, LeastFinalInMeant, LeastStands, FinalListInMeant}
use Rattle.final_readings_spec.specs.Claims.{VotersLess, FinalInBoth, SameWithoutRejects, SameAnswered, VotersInOfAncestry, InAnyOrder, VotersOfRecords}
use Rattle.final_readings_spec.specs.Claims.{CutAtRejects}
use Rattle.final_readings_spec.proofs.VotersIn.{voters_less, rejecter_counted, counted_rejecter, voters_in_iff, rejecters_equal, voters_in_equal}
use Rattle.final_readings_spec.proofs.VotersIn.{voters_in_same}
use Rattle.final_readings_spec.proofs.FinalsIn.{final_in_iff, final_in_old, certifiers_in_alike, certifies_in_same, final_in_same, certifies_in_kept}
use Rattle.final_readings_spec.proofs.FinalsIn.{final_in_order}
use Rattle.final_readings_spec.proofs.CandidatesIn.{least_final_in_lem, least_stands}
use Rattle.final_readings_spec.proofs.ListsIn.{list_same, least_same, asked_on_in}
use Rattle.final_readings_spec.proofs.Records.{voter_more, voter_in_whole}
use Rattle.final_readings_spec.proofs.Cutting.{rejects_between}

pub old_reading : OldReading
unfolding finality_in certifying_positions_in next_final_in least_final_in candidates_in final_list_in is_final_in certifiers_in certifies_in voters_in finality
    certifying_positions next_final least_final final_list is_final certifiers certifies
old_reading =
    record {
      voters = λ bs l r. refl;
      certifies = λ c bs l b. refl;
      certifiers = λ c bs l. refl;
      final = λ c bs l. refl;
      positions = λ c s l. refl;
      finality = λ c s ps l. refl;
      least_final = λ c bs after. refl;
      next_final = λ c s after. refl;
      final_list = λ c bs. refl;
    }

pub rejecters_meant : RejectersMeant
unfolding RejectersMeant
rejecters_meant c bs h l b m a = (counted_rejecter (well_stored c bs h) l a b m, rejecter_counted (well_stored c bs h) l a b m)

pub voters_in_meant : VotersInMeant
unfolding VotersInMeant
voters_in_meant reading c bs h l b m a = voters_in_iff reading (well_stored c bs h) l a b m

pub final_in_meant : FinalInMeant
unfolding FinalInMeant
final_in_meant reading c bs h l = final_in_iff reading c (well_stored c bs h) l

pub least_final_in_meant : LeastFinalInMeant
unfolding LeastFinalInMeant
least_final_in_meant reading c bs after = least_final_in_lem reading c bs after

pub least_stands_there : LeastStands
unfolding LeastStands
least_stands_there = least_stands

pub final_list_in_meant : FinalListInMeant
unfolding FinalListInMeant
final_list_in_meant reading c s b h = asked_on_in reading c s b h

-- ---- Twelve

pub are_less : VotersLess
unfolding VotersLess
are_less = voters_less

pub final_in_both : FinalInBoth
unfolding FinalInBoth
final_in_both c bs l = final_in_old withdrawing c bs l

pub same_without_rejects : SameWithoutRejects
unfolding SameWithoutRejects certifiers_in
same_without_rejects c bs f =
    record {
      voters = λ l r. voters_in_same withdrawing bs f l r;
      certifiers = λ l. λ i. keep (λ b. certifies_in_same withdrawing c bs f l b i) bs;
      final = λ l. final_in_same withdrawing c bs f l;
      least_final = λ after. least_same withdrawing old c bs bs (final_in_same withdrawing c bs f) after;
      final_list = list_same withdrawing old c bs bs (final_in_same withdrawing c bs f);
    }

pub same_answered : SameAnswered
unfolding SameAnswered finality_in certifying_positions_in next_final_in
same_answered c s f =
    record {
      positions = found;
      finality = λ ps l. λ i.
          record {
            answer = checked (finality_checks c s ps) (record { final = final_in_same withdrawing c (blocks_of s) f l i; certifying = length (found l i) });
            positions = pick (passes (finality_checks c s ps)) (found l i ++ drop (length (found l i)) ps) ps;
          };
      next_final = λ after. ap (checked (next_final_checks c s)) (least_same withdrawing old c (blocks_of s) (blocks_of s)
          (final_in_same withdrawing c (blocks_of s) f) after);
    }
  where
    found : (l : TransactionLocator) → certifying_positions_in withdrawing c s l ≡ certifying_positions_in old c s l
    found l = λ i. map (λ e. e.position) (keep (λ e. certifies_in_same withdrawing c (blocks_of s) f l e.block i) (ascending (entries (records_of s))))

pub voters_in_of_ancestry : VotersInOfAncestry
unfolding VotersInOfAncestry
voters_in_of_ancestry c d bs cs h k b m n f l = (
  rejecters_equal (well_stored c bs h) (well_stored d cs k) (small_authors c bs h) (small_authors d cs k) b m (λ x y. ancestor_stored ((f x).0 y)) l,
  λ reading. voters_in_equal reading (well_stored c bs h) (well_stored d cs k) (small_authors c bs h) (small_authors d cs k) b m
      (λ x y. ancestor_stored ((f x).0 y)) l,
)

pub in_any_order : InAnyOrder
unfolding InAnyOrder
in_any_order reading c bs cs h k same_blocks =
    let same-finals = final_in_order reading c (well_stored c bs h) (well_stored c cs k) (small_authors c bs h) (small_authors c cs k) same_blocks in
    record {
      certifies = λ l b m. certifies_in_kept reading c (well_stored c bs h) (well_stored c cs k) (small_authors c bs h) (small_authors c cs k)
          (λ x. (same_blocks x).0) l b m;
      final = same-finals;
      least_final = λ after. least_same reading reading c bs cs same-finals after;
      final_list = list_same reading reading c bs cs same-finals;
    }

pub voters_of_records : VotersOfRecords
unfolding VotersOfRecords
voters_of_records c cs bs h more b m l a =
    let w = well_stored c cs h in
    record { old = voter_more w more b m l a; whole = voter_in_whole w more b m l a }

pub cut_at_rejects : CutAtRejects
unfolding CutAtRejects
cut_at_rejects reading c bs l o from votes clear = certifiers_in_alike reading c bs l (locator l.block o) votes (rejects_between bs l o from clear)
