-- The voters of both readings. Assumes nothing.
use mathlib.Core.Path.{◌≡◌, refl, sym, ap, ap₂, ◌∙◌}
use mathlib.Core.Logic.{◌↔◌}
use mathlib.Core.Bool.{true, false, not, ◌&&◌}
use mathlib.Core.List.{List}
use Prim.Native.Nat.{◌<◌}
use borrow.Author.Tests.{not-true}
use Rattle.base.specs.Lists.{◌∈◌}
use Rattle.base.proofs.Tests.{and_both, and_left, and_right, fails, not_both}
use Rattle.committee.specs.Committee.{AuthorityIndex}
use Rattle.committee_set.specs.AuthoritySet.{nobody, member, without}
use Rattle.record_spec.specs.Reference.{BlockReference, TransactionLocator}
use Rattle.record_spec.specs.Block.{Block, author}
use Rattle.store_spec.proofs.Stored.{WellStored}
use Rattle.final_spec.specs.Voters.{votes_for, voters}
use Rattle.final_spec.specs.Ancestry.{Ancestor}
use Rattle.final_spec.proofs.Voters.{voter_counted, counted_voter, voters_equal}
use Rattle.final_spec.proofs.Growing.{voters_mono}
use Rattle.final_readings_spec.specs.Rejecting.{own_reject, rejects, rejecters}
use Rattle.final_readings_spec.specs.Readings.{Reading, old, withdrawing, voters_in}
use Rattle.final_readings_spec.specs.Withdrawing.{Rejecter, VoterIn, NoRejects}
use Rattle.final_readings_spec.proofs.Words.{member_without, without_nobody}
use Rattle.final_spec.proofs.Spoken.{speaker_counted, counted_speaker, spoken_equal, spoken_mono, spoken_nobody}
use Rattle.final_readings_spec.proofs.Rejecting.{is_rejected, rejected_is, own_reject_lem, reject_own, own_reject_small, own_reject_none}

-- 02: "Its voters are those of the old reading less the rejecting owners", of any list of blocks
pub voters_less : (bs : List Block) (l : TransactionLocator) (r : BlockReference) (a : AuthorityIndex)
    → member (voters_in withdrawing bs l r) a ≡ member (voters_in old bs l r) a && not (member (rejecters bs l r) a)
unfolding voters_in
voters_less bs l r a = member_without (voters bs l r) (rejecters bs l r) a

-- ---- the rejecting owners, computed and as a relation

pub rejecter_counted : {bs : List Block} → WellStored bs → (l : TransactionLocator) (a : AuthorityIndex) (b : Block) → b ∈ bs → Rejecter bs b l a → member
    (rejecters bs l b.reference) a ≡ true
rejecter_counted w l a b m r =
    speaker_counted own_reject w l a b m (record {
      speaking = r.rejecting;
      ancestor = r.ancestor;
      heard = reject_own r.rejecting l a r.rejects
          r.authored;
    })

pub counted_rejecter : {bs : List Block} → WellStored bs → (l : TransactionLocator) (a : AuthorityIndex) (b : Block) → b ∈ bs → member
    (rejecters bs l b.reference) a ≡ true → Rejecter bs b l a
counted_rejecter w l a b m h =
    let s = counted_speaker own_reject w l a b m h in
    let r = own_reject_lem s.speaking l a s.heard in
    record { rejecting = s.speaking; ancestor = s.ancestor; rejects = r.0; authored = r.1 }

-- ---- the voters, computed and as a relation

pub voter_in_counted : (reading : Reading) {bs : List Block} → WellStored bs → (l : TransactionLocator) (a : AuthorityIndex) (b : Block) → b ∈ bs
    → VoterIn reading bs b l a → member (voters_in reading bs l b.reference) a ≡ true
unfolding voters_in
voter_in_counted old w l a b m v = voter_counted w l a b m v
voter_in_counted withdrawing {bs} w l a b m v =
    let none_of : member (rejecters bs l b.reference) a ≡ false = fails _ (λ h. v.1 (counted_rejecter w l a b m h)) in
    member_without (voters bs l b.reference) (rejecters bs l b.reference) a ∙ and_both _ _ (voter_counted w l a b m v.0) (ap not none_of)

pub counted_voter_in : (reading : Reading) {bs : List Block} → WellStored bs → (l : TransactionLocator) (a : AuthorityIndex) (b : Block) → b ∈ bs
    → member (voters_in reading bs l b.reference) a ≡ true → VoterIn reading bs b l a
unfolding voters_in
counted_voter_in old w l a b m h = counted_voter w l a b m h
counted_voter_in withdrawing {bs} w l a b m h =
    let k = sym (member_without (voters bs l b.reference) (rejecters bs l b.reference) a) ∙ h in
    let n = not-true (member (rejecters bs l b.reference) a) (and_right (member (voters bs l b.reference) a) _ k) in
    (counted_voter w l a b m (and_left _ _ k), λ r. not_both (rejecter_counted w l a b m r) n)

pub voters_in_iff : (reading : Reading) {bs : List Block} → WellStored bs → (l : TransactionLocator) (a : AuthorityIndex) (b : Block) → b ∈ bs
    → (member (voters_in reading bs l b.reference) a ≡ true) ↔ VoterIn reading bs b l a
voters_in_iff reading w l a b m = (counted_voter_in reading w l a b m, voter_in_counted reading w l a b m)

-- who votes in the new reading votes in the old one
pub voters_in_old : (reading : Reading) (bs : List Block) (l : TransactionLocator) (r : BlockReference) (a : AuthorityIndex)
    → member (voters_in reading bs l r) a ≡ true → member (voters_in old bs l r) a ≡ true
voters_in_old old bs l r a h = h
voters_in_old withdrawing bs l r a h = and_left _ _ (sym (voters_less bs l r a) ∙ h)

-- ---- by the ancestry alone

pub rejecters_equal : {bs cs : List Block} → WellStored bs → WellStored cs → ((x : Block) → x ∈ bs → author x < 128) → ((x : Block) → x ∈ cs → author x < 128)
    → (b : Block) → b ∈ bs → ((x : Block) → Ancestor bs x b → x ∈ cs) → (l : TransactionLocator) → rejecters bs l b.reference ≡ rejecters cs l b.reference
rejecters_equal v w f g b m h l = spoken_equal own_reject v w l (λ x k. own_reject_small x l (f x k)) (λ x k. own_reject_small x l (g x k)) b m h

-- two stores of which one holds a block's ancestry in the other have the same two words for its voters, in both readings
pub voters_in_equal : (reading : Reading) {bs cs : List Block} → WellStored bs → WellStored cs → ((x : Block) → x ∈ bs → author x < 128) →
    ((x : Block) → x ∈ cs → author x < 128)
    → (b : Block) → b ∈ bs → ((x : Block) → Ancestor bs x b → x ∈ cs) → (l : TransactionLocator) → voters_in reading bs l b.reference ≡ voters_in reading cs
    l b.reference
unfolding voters_in
voters_in_equal old v w f g b m h l = voters_equal v w f g b m h l
voters_in_equal withdrawing v w f g b m h l = ap₂ without (voters_equal v w f g b m h l) (rejecters_equal v w f g b m h l)

-- ---- no rejects

pub no_rejecters : (bs : List Block) → NoRejects bs → (l : TransactionLocator) (r : BlockReference) → rejecters bs l r ≡ nobody
no_rejecters bs f l r = spoken_nobody own_reject l bs (λ d m. own_reject_none d l (f d m l)) r

pub voters_in_same : (reading : Reading) (bs : List Block) → NoRejects bs → (l : TransactionLocator) (r : BlockReference) → voters_in reading bs l r ≡ voters_in
    old bs l r
unfolding voters_in
voters_in_same old bs f l r = refl
voters_in_same withdrawing bs f l r = rw (no_rejecters bs f l r) (without_nobody (voters bs l r))

-- ---- two locators

-- where every block that votes for l votes for m, and every one that rejects m rejects l, a voter for l is one for m
pub voters_in_mono : (reading : Reading) (l m : TransactionLocator) (bs : List Block)
    → ((d : Block) → d ∈ bs → votes_for d l ≡ true → votes_for d m ≡ true)
    → ((d : Block) → d ∈ bs → rejects d m ≡ true → rejects d l ≡ true)
    → (r : BlockReference) (a : AuthorityIndex) → member (voters_in reading bs l r) a ≡ true → member (voters_in reading bs m r) a ≡ true
unfolding voters_in
voters_in_mono old l m bs f g r a h = voters_mono l m bs f r a h
voters_in_mono withdrawing l m bs f g r a h =
    let k = sym (member_without (voters bs l r) (rejecters bs l r) a) ∙ h in
    let n = not-true (member (rejecters bs l r) a) (and_right (member (voters bs l r) a) _ k) in
    let still : member (rejecters bs m r) a ≡ false = fails _ (λ q. not_both (back q) n) in
    member_without (voters bs m r) (rejecters bs m r) a ∙ and_both _ _ (voters_mono l m bs f r a (and_left _ _ k)) (ap not still)
  where
    own_back : (d : Block) → d ∈ bs → (x : AuthorityIndex) → member (own_reject d m) x ≡ true → member (own_reject d l) x ≡ true
    own_back d k x q = let s = own_reject_lem d m x q in reject_own d l x (is_rejected d l (g d k (rejected_is d m s.0))) s.1

    back : member (rejecters bs m r) a ≡ true → member (rejecters bs l r) a ≡ true
    back q = spoken_mono own_reject m l bs own_back r a q
