-- What is final stays final while records arrive. Assumes nothing.
use mathlib.Core.Path.{◌≡◌, sym, ap, subst}
use mathlib.Core.Bool.{Bool, true, false}
use mathlib.Core.List.{List}
use Prim.Native.Nat.{ℕ, ◌≤◌}
use lib.ListN.{length, take}
use lib.Seq.{take-append_seam}
use borrow.Author.Tests.{le-ltb}
use Rattle.base.specs.Lists.{all_of, keep, ◌∈◌}
use Rattle.base.specs.Le.{Bytes}
use Rattle.base.specs.Checks.{refusal, passes, answered, checked}
use Rattle.base.proofs.Checks.{checked_answered}
use Rattle.base.proofs.Members.{in_keep, keep_in}
use Rattle.committee.specs.Committee.{Committee, broken}
use Rattle.record_spec.specs.Reference.{TransactionLocator}
use Rattle.store_spec.specs.Store.{records_of, store_in_order}
use Rattle.store_spec.specs.Shares.{is_stored_share}
use Rattle.final_spec.specs.Finality.{Finality, blocks_of, finality_checks}
use Rattle.final_spec.proofs.Asked.{asked_once}
use Rattle.final_readings_spec.specs.Readings.{Reading, is_final_in}
use Rattle.final_readings_spec.specs.Finality.{certifying_positions_in, finality_in}
use Rattle.final_readings_spec.specs.NextFinal.{next_final_in, FinalListIn, final_list_in}
use Rattle.final_readings_spec.proofs.ListsIn.{list_in, asked_on_in}
use Rattle.mission_theorems.specs.Feeds.{fresh}
use Rattle.mission_theorems.specs.ThirdStatement.{engine_of}
use Rattle.mission_theorems.proofs.Storing.{fresh_holds}
use Rattle.trust_theorems.specs.Staying.{StillFinal, StaysFinal}
use Rattle.trust_theorems.proofs.Growing.{Grown, run_grows}
use Rattle.trust_theorems.proofs.Naming.{entered, share_stays, final_stays, positions_stay}

-- a question that is not refused answers
answers_final : (reading : Reading) (c : Committee) (s : Bytes) (ps : List ℕ) (l : TransactionLocator) → broken c ≡ false → store_in_order c s ≡ true → length
    (records_of s) ≤ length ps
    → is_final_in reading c (blocks_of s) l ≡ true → (finality_in reading c s ps l).answer ≡ answered
    (record { final = true; certifying = length (certifying_positions_in reading c s l) })
unfolding finality_in finality_checks checked passes refusal all_of
answers_final reading c s ps l b h k f = rw (b, h, le-ltb (length ps) (length (records_of s)) k, f)

module _ (reading : Reading) (c : Committee) (s : Bytes) (ps : List ℕ) (l : TransactionLocator) (f : Bool) (n : ℕ)
    (e : (finality_in reading c s ps l).answer ≡ answered (record { final = f; certifying = n })) where
  -- what an answer tells
  told : (passes (finality_checks c s ps) ≡ true) × (◌≡◌ {A = Finality}
      (record { final = is_final_in reading c (blocks_of s) l; certifying = length (certifying_positions_in reading c s l) })
      (record { final = f; certifying = n }))
  told = unfold finality_in in checked_answered (finality_checks c s ps)
      (record { final = is_final_in reading c (blocks_of s) l; certifying = length (certifying_positions_in reading c s l) })
      (record { final = f; certifying = n }) e

  told_final : is_final_in reading c (blocks_of s) l ≡ f
  told_final = ap (λ (x : Finality). x.final) told.1

  -- in front of the slice stand the certifying positions and nothing else
  told_positions : take n (finality_in reading c s ps l).positions ≡ certifying_positions_in reading c s l
  unfolding finality_in
  told_positions = rw (sym (ap (λ (x : Finality). x.certifying) told.1), told.0) (take-append_seam (certifying_positions_in reading c s l) _)

pub still : (reading : Reading) (c : Committee) (s t : Bytes) → broken c ≡ false → store_in_order c s ≡ true → Grown c s t → StillFinal reading c s t
still reading c s t b h g =
    record {
      final = final_stays c s t b h g reading;
      answered_final = λ l ps qs n e m. (
        length (certifying_positions_in reading c t l),
        answers_final reading c t qs l b g.order m
            (final_stays c s t b h g reading l (told_final reading c s ps l true n e)),
      );
      named = λ l ps qs f u n m e d p k.
          subst (λ (x : List ℕ). p ∈ x) (sym (told_positions reading c t qs l u m d))
          (positions_stay c s t b h g reading l p (subst (λ (x : List ℕ). p ∈ x) (told_positions reading c s ps l f n e) k));
      entered = entered c s t b h g;
      listed = λ ls ms x y l. (in_list ls ms x y l, in_shares ls ms x y l);
    }
  where
    in_list : (ls ms : List TransactionLocator) → FinalListIn reading c s ls → FinalListIn reading c t ms → (l : TransactionLocator) → l ∈ ls → l ∈ ms
    in_list ls ms x y l m =
        let was : l ∈ final_list_in reading c (blocks_of s) = subst (λ (zs : List TransactionLocator). l ∈ zs)
        (asked_once (next_final_in reading c s) x (asked_on_in reading c s b h)) m in
        subst (λ (zs : List TransactionLocator). l ∈ zs) (asked_once (next_final_in reading c t) (asked_on_in reading c t b g.order) y)
        ((list_in reading c (blocks_of t) l).1 (final_stays c s t b h g reading l ((list_in reading c (blocks_of s) l).0 was)))

    in_shares : (ls ms : List TransactionLocator) → FinalListIn reading c s ls → FinalListIn reading c t ms → (l : TransactionLocator)
        → l ∈ keep (is_stored_share (blocks_of s)) ls → l ∈ keep (is_stored_share (blocks_of t)) ms
    in_shares ls ms x y l m =
        let k = keep_in (is_stored_share (blocks_of s)) ls m in
        in_keep (is_stored_share (blocks_of t)) ms (in_list ls ms x y l k.0) (share_stays c s t b h g l k.1)

pub stays_final : StaysFinal
unfolding engine_of fresh
stays_final =
    record {
      further = λ reading c b g h fs. still reading c g.store _ b h (run_grows c g fs h);
      fed = λ reading c b t fs.
          let h = (run_grows c (fresh t.past t.words) t.feeds (fresh_holds c t.past t.allowed).order).order in
          still reading c (engine_of c t).store _ b h (run_grows c (engine_of c t) fs h);
    }
