-- Certificates and finality of both readings, computed and as relations; by the ancestry alone they stay, and do not depend on the order of blocks.
-- Assumes nothing.
use mathlib.Core.Path.{◌≡◌, sym, ap, ◌∙◌}
use mathlib.Core.Logic.{◌↔◌}
use mathlib.Core.Bool.{true, false, not, ◌&&◌}
use mathlib.Core.List.{List, map}
use Prim.Native.Nat.{◌<◌}
use lib.Dec.{eqb}
use lib.ListN.{length}
use borrow.Author.Tests.{eq-eqb, eqb-true, not-true}
use Rattle.base.specs.Lists.{keep, ◌∈◌}
use Rattle.base.proofs.Tests.{and_both, and_left, and_right, same_test}
use Rattle.base.proofs.Members.{any_in, in_any, in_map, map_in, in_keep, keep_in}
use Rattle.committee.specs.Committee.{AuthorityIndex, Committee, is_quorum}
use Rattle.committee_set.specs.AuthoritySet.{AuthoritySet, member, set_of, stake_of}
use Rattle.committee.specs.Quorum.{HoldQuorum}
use Rattle.committee_set.proofs.Votes.{member_set_of}
use Rattle.committee_set.proofs.Quorums.{stake_mono, quorum_counted, counted_quorum}
use Rattle.record_spec.specs.Reference.{TransactionLocator}
use Rattle.record_spec.specs.Block.{Block, author}
use Rattle.store_spec.proofs.Stored.{WellStored}
use Rattle.final_spec.specs.Voters.{votes_for}
use Rattle.final_spec.proofs.Ancestors.{ancestor_stored}
use Rattle.committee.proofs.Bounds.{more_quorum}
use Rattle.final_readings_spec.specs.Rejecting.{rejects}
use Rattle.final_readings_spec.specs.Readings.{Reading, old, voters_in, certifies_in, certifiers_in, is_final_in}
use Rattle.final_readings_spec.specs.Withdrawing.{VoterIn, CertificateIn, FinalIn, NoRejects}
use Rattle.final_readings_spec.proofs.VotersIn.{voter_in_counted, counted_voter_in, voters_in_old, voters_in_equal, voters_in_same, voters_in_mono}

-- ---- the computed answers mean the relations

module _ (reading : Reading) (c : Committee) {bs : List Block} (w : WellStored bs) (l : TransactionLocator) where
  -- a stored block certifies exactly where it is unmarked and its voters hold quorum
  pub certifies_in_true : (b : Block) → b ∈ bs → certifies_in reading c bs l b ≡ true → (b.marked ≡ false) × HoldQuorum c (VoterIn reading bs b l)
  unfolding certifies_in
  certifies_in_true b m h = (
    not-true b.marked (and_left (not b.marked) _ h),
    counted_quorum c (voters_in reading bs l b.reference) (VoterIn reading bs b l) (λ a k e. counted_voter_in reading w l a b m e)
        (and_right (not b.marked) _ h),
  )

  pub true_certifies_in : (b : Block) → b ∈ bs → b.marked ≡ false → HoldQuorum c (VoterIn reading bs b l) → certifies_in reading c bs l b ≡ true
  unfolding certifies_in
  true_certifies_in b m e q = rw e (quorum_counted c (voters_in reading bs l b.reference) (VoterIn reading bs b l)
      (λ a k v. voter_in_counted reading w l a b m v) q)

  certificate_in : (a : AuthorityIndex) → CertificateIn reading c bs l a → member (set_of (map author (certifiers_in reading c bs l))) a ≡ true
  unfolding certifiers_in
  certificate_in a k =
      member_set_of (map author (certifiers_in reading c bs l)) a
      ∙ in_any (eqb a) (in_map author (in_keep (certifies_in reading c bs l) bs k.stored
      (true_certifies_in k.block k.stored k.unmarked k.quorum))) (eq-eqb a (author k.block) (sym k.authored))

  in_certificate : (a : AuthorityIndex) → member (set_of (map author (certifiers_in reading c bs l))) a ≡ true → CertificateIn reading c bs l a
  unfolding certifiers_in
  in_certificate a h =
      let x = any_in (eqb a) (map author (certifiers_in reading c bs l)) (sym (member_set_of (map author (certifiers_in reading c bs l)) a) ∙ h) in
      let b = map_in author (certifiers_in reading c bs l) x.1 in
      let k = keep_in (certifies_in reading c bs l) bs b.1 in
      let q = certifies_in_true b.0 k.0 k.1 in
      record { block = b.0; stored = k.0; unmarked = q.0; quorum = q.1; authored = b.2 ∙ sym (eqb-true a x.0 x.2) }

  -- the computed answer is true exactly where the locator is final
  pub final_in_iff : (is_final_in reading c bs l ≡ true) ↔ FinalIn reading c bs l
  unfolding is_final_in
  final_in_iff = (
    counted_quorum c (set_of (map author (certifiers_in reading c bs l))) (CertificateIn reading c bs l) (λ a k e. in_certificate a e),
    quorum_counted c (set_of (map author (certifiers_in reading c bs l))) (CertificateIn reading c bs l) (λ a k x. certificate_in a x),
  )

-- ---- what certifies and is final here certifies and is final there

module _ (reading other : Reading) (c : Committee) (bs cs : List Block) (l m : TransactionLocator) where
  -- a block with more voters certifies too
  certifies_carried : (b : Block) → ((a : AuthorityIndex) → member (voters_in reading bs l b.reference) a ≡ true → member
      (voters_in other cs m b.reference) a ≡ true)
      → certifies_in reading c bs l b ≡ true → certifies_in other c cs m b ≡ true
  unfolding certifies_in
  certifies_carried b f h =
      and_both _ _ (and_left (not b.marked) _ h)
      (more_quorum c (stake_of c (voters_in reading bs l b.reference)) (stake_of c (voters_in other cs m b.reference))
      (stake_mono c (voters_in reading bs l b.reference) (voters_in other cs m b.reference) (λ a k. f a)) (and_right (not b.marked) _ h))

  -- where every certifying block is one there, what is final here is final there
  final_carried : ((b : Block) → b ∈ bs → certifies_in reading c bs l b ≡ true → (b ∈ cs) × (certifies_in other c cs m b ≡ true))
      → is_final_in reading c bs l ≡ true → is_final_in other c cs m ≡ true
  unfolding is_final_in certifiers_in
  final_carried f h =
      more_quorum c (stake_of c (set_of (map author (certifiers_in reading c bs l)))) (stake_of c (set_of (map author (certifiers_in other c cs m))))
      (stake_mono c (set_of (map author (certifiers_in reading c bs l))) (set_of (map author (certifiers_in other c cs m))) authors) h
    where
      authors : (a : AuthorityIndex) → a < length c → member (set_of (map author (certifiers_in reading c bs l))) a ≡ true → member
          (set_of (map author (certifiers_in other c cs m))) a ≡ true
      authors a k e =
          let x = any_in (eqb a) (map author (certifiers_in reading c bs l)) (sym (member_set_of (map author (certifiers_in reading c bs l)) a) ∙ e) in
          let b = map_in author (certifiers_in reading c bs l) x.1 in
          let s = keep_in (certifies_in reading c bs l) bs b.1 in
          let t = f b.0 s.0 s.1 in
          member_set_of (map author (certifiers_in other c cs m)) a
          ∙ in_any (eqb a) (in_map author (in_keep (certifies_in other c cs m) cs t.0 t.1)) (ap (λ (n : AuthorityIndex). eqb a n) b.2 ∙ x.2)

-- what certifies and is final in the new reading does so in the old one
pub certifies_in_old : (reading : Reading) (c : Committee) (bs : List Block) (l : TransactionLocator) (b : Block) → certifies_in reading c bs l b ≡ true →
    certifies_in old c bs l b ≡ true
certifies_in_old reading c bs l b = certifies_carried reading old c bs bs l l b (voters_in_old reading bs l b.reference)

pub final_in_old : (reading : Reading) (c : Committee) (bs : List Block) (l : TransactionLocator) → is_final_in reading c bs l ≡ true → is_final_in old c bs l ≡
    true
final_in_old reading c bs l = final_carried reading old c bs bs l l (λ b m h. (m, certifies_in_old reading c bs l b h))

-- where every block that votes for l votes for m, and every one that rejects m rejects l, what is final for l is final for m
pub final_in_mono : (reading : Reading) (c : Committee) (bs : List Block) (l m : TransactionLocator)
    → ((d : Block) → d ∈ bs → votes_for d l ≡ true → votes_for d m ≡ true) → ((d : Block) → d ∈ bs → rejects d m ≡ true → rejects d l ≡ true)
    → is_final_in reading c bs l ≡ true → is_final_in reading c bs m ≡ true
final_in_mono reading c bs l m f g =
    final_carried reading reading c bs bs l m (λ b k h. (
      k,
      certifies_carried reading reading c bs bs l m b (voters_in_mono reading l m bs f g b.reference)
          h,
    ))

-- where every block votes for both or neither of two locators, and rejects both or neither, both have the same certifying blocks
module _ (reading : Reading) (c : Committee) (bs : List Block) (l m : TransactionLocator)
    (votes : (d : Block) → d ∈ bs → votes_for d l ≡ votes_for d m) (turned : (d : Block) → d ∈ bs → rejects d l ≡ rejects d m) where
  pub certifies_in_alike : (b : Block) → certifies_in reading c bs l b ≡ certifies_in reading c bs m b
  certifies_in_alike b =
      same_test _ _
      (certifies_carried reading reading c bs bs l m b (voters_in_mono reading l m bs (λ d k h. sym (votes d k) ∙ h) (λ d k h. turned d k ∙ h) b.reference))
      (certifies_carried reading reading c bs bs m l b (voters_in_mono reading m l bs (λ d k h. votes d k ∙ h) (λ d k h. sym (turned d k) ∙ h) b.reference))

  pub certifiers_in_alike : certifiers_in reading c bs l ≡ certifiers_in reading c bs m
  unfolding certifiers_in
  certifiers_in_alike = λ i. keep (λ b. certifies_in_alike b i) bs

-- with no rejects both readings find the same
pub certifies_in_same : (reading : Reading) (c : Committee) (bs : List Block) → NoRejects bs → (l : TransactionLocator) (b : Block) → certifies_in reading c bs
    l b ≡ certifies_in old c bs l b
unfolding certifies_in
certifies_in_same reading c bs f l b = ap (λ (v : AuthoritySet). not b.marked && is_quorum c (stake_of c v)) (voters_in_same reading bs f l b.reference)

pub final_in_same : (reading : Reading) (c : Committee) (bs : List Block) → NoRejects bs → (l : TransactionLocator) → is_final_in reading c bs l
    ≡ is_final_in old
    c bs l
unfolding is_final_in certifiers_in
final_in_same reading c bs f l = λ i. is_quorum c (stake_of c (set_of (map author (keep (λ b. certifies_in_same reading c bs f l b i) bs))))

-- ---- among more blocks

module _ (reading : Reading) (c : Committee) {bs cs : List Block} (v : WellStored bs) (w : WellStored cs)
    (f : (x : Block) → x ∈ bs → author x < 128) (g : (x : Block) → x ∈ cs → author x < 128) (more : (x : Block) → x ∈ bs → x ∈ cs) (l : TransactionLocator)
  where
    -- a block certifies among more blocks exactly where it did: its ancestry is the same
    pub certifies_in_kept : (b : Block) → b ∈ bs → certifies_in reading c bs l b ≡ certifies_in reading c cs l b
    unfolding certifies_in
    certifies_in_kept b m =
        ap (λ (u : AuthoritySet). not b.marked && is_quorum c (stake_of c u)) (voters_in_equal reading v w f g b m (λ x a. more x (ancestor_stored a)) l)

    -- so what is final stays final
    pub final_in_stays : is_final_in reading c bs l ≡ true → is_final_in reading c cs l ≡ true
    final_in_stays = final_carried reading reading c bs cs l l (λ b m h. (more b m, sym (certifies_in_kept b m) ∙ h))

-- order: the computed answer depends on which blocks are stored alone
pub final_in_order : (reading : Reading) (c : Committee) {bs cs : List Block} → WellStored bs → WellStored cs → ((x : Block) → x ∈ bs → author x < 128) →
    ((x : Block) → x ∈ cs → author x < 128)
    → ((x : Block) → x ∈ bs ↔ x ∈ cs) → (l : TransactionLocator) → is_final_in reading c bs l ≡ is_final_in reading c cs l
final_in_order reading c v w f g same_blocks l =
    same_test _ _ (final_in_stays reading c v w f g (λ x. (same_blocks x).0) l) (final_in_stays reading c w v g f (λ x. (same_blocks x).1) l)
