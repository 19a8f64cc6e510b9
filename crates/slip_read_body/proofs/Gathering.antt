-- Certifiers taken one after the other. Assumes nothing.
use mathlib.Core.Path.{◌≡◌, sym, ap, subst, ◌∙◌}
use mathlib.Core.Logic.{◌⊎◌, inl, inr}
use mathlib.Core.Bool.{Bool, true, false, ◌||◌}
use mathlib.Core.List.{List, [], ◌∷◌, ◌++◌, map, map-append}
use mathlib.Core.Option.{none, some, none-ne-some}
use Prim.Native.Nat.{ℕ, ◌+◌, ◌≤◌, ◌<◌}
use native.Mathlib.Omega.{arith}
use lib.Dec.{ltb, eqb}
use lib.ListN.{length, drop}
use borrow.Author.Tests.{eqb-true}
use Rattle.base.specs.Lists.{pick}
use Rattle.base.specs.Le.{Bytes, le_at}
use Rattle.base.specs.Read.{Part, repeated}
use Rattle.base.proofs.Tests.{or_cases, neither_left, neither_right}
use Rattle.base.proofs.Fixed.{repeated_length}
use Rattle.committee.specs.Committee.{AuthorityIndex, Committee, broken, is_quorum}
use Rattle.committee_set.specs.AuthoritySet.{AuthoritySet, nobody, inserted, stake_of}
use Rattle.record_spec.specs.Reference.{BlockReference, TransactionLocator, reference_before}
use Rattle.final_readings_spec.specs.Readings.{Reading}
use Rattle.record_spec.proofs.References.{reference_trans}
use Rattle.record_reference_bytes.specs.Step.{reference_at, locator_at}
use Rattle.slip_spec.specs.Slip.{SlipCertifier, Slip, certifiers_ascend, read_certifier, read_slip}
use Rattle.slip_spec.specs.Supplied.{supplied_blocks}
use Rattle.slip_spec.specs.Reading.{missing, slip_holds}
use Rattle.slip_read_verdicts.specs.Verdict.{verdict, worse}
use Rattle.slip_read_voters.specs.Step.{Speak}
use Rattle.slip_read_voters.proofs.Listed.{Listed, listed_start, listed_done, listed_none, listed_falls, listed_on}
use Rattle.slip_read_voters.proofs.Taking.{not_first, speak_none, speak_more}
use Rattle.slip_read_certifier.specs.Step.{Known, ReadOne}
use Rattle.slip_read_certifier.proofs.Joining.{quorum_same}
use Rattle.slip_read_body.specs.Step.{head_right, reading_at, certifiers_verdict, ReadAll, ReadSlip}
use Rattle.slip_read_body.proofs.Joining.{shows_none, shows_more, slip_found, slip_quorum}
use Rattle.slip_read_body.proofs.Certifying.{slip_more, slip_reads}

abbrev pub reference_of : SlipCertifier → BlockReference
reference_of k = k.reference

abbrev author_of : SlipCertifier → AuthorityIndex
author_of k = k.reference.authority

module _ (c : Committee) (s : Bytes) (q : Bytes) (order votes lacking rejecting : List ℕ) where
  abbrev n : ℕ
  n = le_at 2 s 57

  pub record Gathering (at : ℕ) (authors : AuthoritySet) (shown last i : ℕ) : Type 0 where
    pub taken : List SlipCertifier
    pub listed : Listed read_certifier reference_of reference_before reference_trans s 59 (le_at 2 s 57) at i (reference_at s last) taken
    pub speak : Speak authors (map (λ k. k.reference.authority) taken)
    pub shows : (reading : Reading) (l : TransactionLocator) → Known reading q order l votes lacking rejecting → shown ≡ certifiers_verdict reading c
        (supplied_blocks q) l taken
    pub back : last + 48 ≤ length s

  pub gathering_start : 59 ≤ length s → Gathering 59 nobody 0 0 0
  gathering_start h =
      record {
        taken = [];
        listed = listed_start read_certifier reference_of reference_before reference_trans s 59 n (reference_at s 0) h;
        speak = speak_none;
        shows = λ reading l k. shows_none reading c (supplied_blocks q) l;
        back = omega arith;
      }

  module _ (at : ℕ) (authors : AuthoritySet) (shown last i : ℕ) (t : Gathering at authors shown last i) where
    pub gathering_done : n ≤ i → ReadAll c s q order votes lacking rejecting at authors shown
    unfolding certifiers_ascend
    gathering_done h =
        record {
          certifiers = t.taken;
          reads = listed_done read_certifier reference_of reference_before reference_trans s 59 n at i (reference_at s last) t.taken t.listed h;
          inside = t.listed.inside;
          ascend = t.listed.rises;
          speak = t.speak;
          shows = t.shows;
        }

    module _ (more : i < n) where
      pub gathering_none : read_certifier (drop at s) ≡ none → (r : Part (List SlipCertifier)) → repeated n read_certifier (drop 59 s) ≡ some r →
          certifiers_ascend r.value ≡ false
      gathering_none h r e =
          absurd (none-ne-some r (sym (listed_none read_certifier reference_of reference_before reference_trans s 59 n at i (reference_at s last)
          t.taken t.listed more h) ∙ e))

      module _ (end own : ℕ) (one : ReadOne c s at q order votes lacking rejecting end own) where
        pub gathering_falls : eqb i 0 || reference_before (reference_at s last) (reference_at s at) ≡ false
            → (r : Part (List SlipCertifier)) → repeated n read_certifier (drop 59 s) ≡ some r → certifiers_ascend r.value ≡ false
        unfolding certifiers_ascend
        gathering_falls h =
            listed_falls read_certifier reference_of reference_before reference_trans s 59 n at i (reference_at s last) t.taken t.listed more
            one.certifier end one.reads
            (not_first (neither_left (eqb i 0) _ h)) (ap (reference_before (reference_at s last)) one.named_by ∙ neither_right (eqb i 0) _ h)

        pub gathering_on : (new author : ℕ) (with : AuthoritySet) → eqb i 0 || reference_before (reference_at s last) (reference_at s at) ≡ true → author
            ≡ le_at
            8 s at
            → with ≡ pick (ltb author 128) (inserted authors author) authors → new ≡ worse shown own → Gathering end with new at (i + 1)
        unfolding reference_at
        gathering_on new author with h a e f =
            record {
              taken = t.taken ++ one.certifier ∷ [];
              listed =
                  subst (λ (r : BlockReference). Listed read_certifier reference_of reference_before reference_trans s 59 n end (i + 1) r
                  (t.taken ++ one.certifier ∷ [])) one.named_by
                  (listed_on read_certifier reference_of reference_before reference_trans s 59 n at i (reference_at s last) t.taken t.listed more
                  one.certifier end one.reads
                  (λ z. ap (reference_before (reference_at s last)) one.named_by ∙ not_last
                  (or_cases (eqb i 0) (reference_before (reference_at s last) (reference_at s at)) h) z) one.inside);
              speak =
                  let own-author : author ≡ one.certifier.reference.authority = a ∙ sym (ap (λ (r : BlockReference). r.authority) one.named_by) in
                  rw (e, map-append author_of t.taken (one.certifier ∷ []), own-author)
                  (speak_more authors (map author_of t.taken) one.certifier.reference.authority t.speak);
              shows = λ reading l m. f ∙ rw (t.shows reading l m, one.shows reading l m)
                  (sym (shows_more reading c (supplied_blocks q) l t.taken one.certifier));
              back = omega (arith, one.long);
            }
          where
            not_last : (eqb i 0 ≡ true) ⊎ (reference_before (reference_at s last) (reference_at s at) ≡ true) → 0 < i → reference_before (reference_at s last)
                (reference_at s at) ≡ true
            not_last (inl z) y = absurd (omega (arith, eqb-true i 0 z))
            not_last (inr z) y = z

-- ---- the slip

module _ (c : Committee) (s : Bytes) (q : Bytes) (order votes lacking rejecting : List ℕ) (end : ℕ) (authors : AuthoritySet) (shown : ℕ)
    (sound : broken c ≡ false) (h : head_right s ≡ true)
    (r : ReadAll c s q order votes lacking rejecting end authors shown) where
  pub after_all : (end ≡ length s → ⊥) → read_slip s ≡ none
  after_all f = slip_more s h r.certifiers end r.reads r.ascend r.inside f

  module _ (e : end ≡ length s) where
    abbrev the : Slip
    the = record { reading = reading_at s; locator = locator_at s 1; certifiers = r.certifiers }

    slip_shows : (v : ℕ) → (Known (reading_at s) q order (locator_at s 1) votes lacking rejecting → v ≡ verdict (missing (supplied_blocks q) the)
        (slip_holds c (supplied_blocks q) the))
        → ReadSlip c s q order votes lacking rejecting v
    slip_shows v f =
        record {
          slip = the;
          reads = slip_reads s h r.certifiers end r.reads r.ascend r.inside e;
          many = repeated_length read_certifier (le_at 2 s 57) (drop 59 s) _ r.reads;
          shows = f;
        }

    pub all_found : (shown ≡ 0 → ⊥) → ReadSlip c s q order votes lacking rejecting shown
    all_found f = slip_shows shown (λ m. slip_found c (supplied_blocks q) the shown (r.shows (reading_at s) (locator_at s 1) m) f)

    pub all_quorum : (t : Bool) → shown ≡ 0 → t ≡ is_quorum c (stake_of c authors) → ReadSlip c s q order votes lacking rejecting (pick t 0 1)
    all_quorum t z f = slip_shows (pick t 0 1) (λ m. slip_quorum c (supplied_blocks q) the shown (r.shows (reading_at s) (locator_at s 1) m) t z
        (f ∙ quorum_same c authors _ sound r.speak))
