-- Finality, computed and as a relation; it grows, and it does not depend on the order of blocks. Assumes nothing.
use mathlib.Core.Path.{◌≡◌, sym, ◌∙◌}
use mathlib.Core.Logic.{◌↔◌}
use mathlib.Core.Bool.{true, false, not}
use mathlib.Core.List.{List, map}
use lib.Dec.{eqb}
use borrow.Author.Tests.{eq-eqb, eqb-true, not-true}
use Rattle.base.specs.Lists.{◌∈◌}
use Rattle.base.proofs.Tests.{and_left, and_right, same_test}
use Rattle.base.proofs.Members.{any_in, in_any, in_map, map_in, in_keep, keep_in}
use Rattle.committee.specs.Committee.{AuthorityIndex, Committee}
use Rattle.committee_set.specs.AuthoritySet.{member, set_of}
use Rattle.committee.specs.Quorum.{HoldQuorum}
use Rattle.committee_set.proofs.Votes.{member_set_of}
use Rattle.committee_set.proofs.Quorums.{quorum_counted, counted_quorum, quorum_mono}
use Rattle.record_spec.specs.Reference.{TransactionLocator}
use Rattle.record_spec.specs.Block.{Block, author}
use Rattle.final_spec.specs.Voters.{voters, certifies, certifiers, is_final}
use Rattle.final_spec.specs.Ancestry.{VotesFor, Voter, Certificate, Final}
use Rattle.store_spec.proofs.Stored.{WellStored}
use Rattle.final_spec.proofs.Ancestors.{ancestor_grows, ancestor_stored}
use Rattle.final_spec.proofs.Voters.{voter_counted, counted_voter}

-- ---- the relation alone: no order of blocks, no stored includes

-- voters stay where blocks are added, and pass to a locator for which all voting blocks vote too
pub voter_grows : {bs cs : List Block} → ((x : Block) → x ∈ bs → x ∈ cs) → {l m : TransactionLocator} → ((d : Block) → d ∈ bs → VotesFor d l → VotesFor d m)
    → (b : Block) (a : AuthorityIndex) → Voter bs b l a → Voter cs b m a
voter_grows f g b a v =
    record {
      voting = v.voting;
      ancestor = ancestor_grows f v.ancestor;
      votes = g v.voting (ancestor_stored v.ancestor) v.votes;
      authored = v.authored;
    }

pub final_grows : (c : Committee) {bs cs : List Block} → ((x : Block) → x ∈ bs → x ∈ cs) → {l m : TransactionLocator} →
    ((d : Block) → d ∈ bs → VotesFor d l → VotesFor d m)
    → Final c bs l → Final c cs m
final_grows c {bs} {cs} f {l} {m} g =
    quorum_mono c (Certificate c bs l) (Certificate c cs m) (λ a k.
    record {
      block = k.block;
      stored = f k.block k.stored;
      unmarked = k.unmarked;
      quorum = quorum_mono c (Voter bs k.block l) (Voter cs k.block m) (voter_grows f g k.block) k.quorum;
      authored = k.authored;
    })

-- order: finality depends on which blocks are stored alone
pub final_order : (c : Committee) (bs cs : List Block) (l : TransactionLocator) → ((x : Block) → x ∈ bs ↔ x ∈ cs) → Final c bs l ↔ Final c cs l
final_order c bs cs l same_blocks = (final_grows c (λ x. (same_blocks x).0) (λ d m v. v), final_grows c (λ x. (same_blocks x).1) (λ d m v. v))

-- ---- the computed answer

module _ (c : Committee) {bs : List Block} (w : WellStored bs) (l : TransactionLocator) where
  -- a stored block certifies exactly where it is unmarked and its voters hold quorum
  pub certifies_true : (b : Block) → b ∈ bs → certifies c bs l b ≡ true → (b.marked ≡ false) × HoldQuorum c (Voter bs b l)
  unfolding certifies
  certifies_true b m h = (
    not-true b.marked (and_left (not b.marked) _ h),
    counted_quorum c (voters bs l b.reference) (Voter bs b l) (λ a k e. counted_voter w l a b m e) (and_right (not b.marked) _ h),
  )

  pub true_certifies : (b : Block) → b ∈ bs → b.marked ≡ false → HoldQuorum c (Voter bs b l) → certifies c bs l b ≡ true
  unfolding certifies
  true_certifies b m e q = rw e (quorum_counted c (voters bs l b.reference) (Voter bs b l) (λ a k v. voter_counted w l a b m v) q)

  certificate_in : (a : AuthorityIndex) → Certificate c bs l a → member (set_of (map author (certifiers c bs l))) a ≡ true
  unfolding certifiers
  certificate_in a k =
      member_set_of (map author (certifiers c bs l)) a
      ∙ in_any (eqb a) (in_map author (in_keep (certifies c bs l) bs k.stored (true_certifies k.block k.stored k.unmarked k.quorum)))
      (eq-eqb a (author k.block) (sym k.authored))

  in_certificate : (a : AuthorityIndex) → member (set_of (map author (certifiers c bs l))) a ≡ true → Certificate c bs l a
  unfolding certifiers
  in_certificate a h =
      let x = any_in (eqb a) (map author (certifiers c bs l)) (sym (member_set_of (map author (certifiers c bs l)) a) ∙ h) in
      let b = map_in author (certifiers c bs l) x.1 in
      let k = keep_in (certifies c bs l) bs b.1 in
      let q = certifies_true b.0 k.0 k.1 in
      record { block = b.0; stored = k.0; unmarked = q.0; quorum = q.1; authored = b.2 ∙ sym (eqb-true a x.0 x.2) }

  -- the computed answer is true exactly where the locator is final
  pub is_final_lem : Final c bs l → is_final c bs l ≡ true
  unfolding is_final
  is_final_lem = quorum_counted c (set_of (map author (certifiers c bs l))) (Certificate c bs l) (λ a k x. certificate_in a x)

  pub final_is : is_final c bs l ≡ true → Final c bs l
  unfolding is_final
  final_is = counted_quorum c (set_of (map author (certifiers c bs l))) (Certificate c bs l) (λ a k e. in_certificate a e)

  pub final_iff : (is_final c bs l ≡ true) ↔ Final c bs l
  final_iff = (final_is, is_final_lem)

-- order: the computed answer depends on which blocks are stored alone
pub is_final_order : (c : Committee) {bs cs : List Block} → WellStored bs → WellStored cs → ((x : Block) → x ∈ bs ↔ x ∈ cs) → (l : TransactionLocator) →
    is_final c bs l ≡ is_final c cs l
is_final_order c {bs} {cs} v w same_blocks l =
    let e = final_order c bs cs l same_blocks in
    same_test (is_final c bs l) (is_final c cs l) (λ h. is_final_lem c w l (e.0 (final_is c v l h))) (λ h. is_final_lem c v l (e.1 (final_is c w l h)))
