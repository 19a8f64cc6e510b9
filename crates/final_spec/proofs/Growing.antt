-- The computed answers grow with the votes, over any list of blocks: nothing is asked of how they are stored. Assumes nothing.
use mathlib.Core.Path.{◌≡◌, sym, ap, ◌∙◌}
use mathlib.Core.Bool.{true, not}
use mathlib.Core.List.{List, map}
use Prim.Native.Nat.{◌<◌}
use lib.Dec.{eqb}
use lib.ListN.{length}
use Rattle.base.specs.Lists.{◌∈◌}
use Rattle.base.proofs.Tests.{and_both, and_left, and_right}
use Rattle.base.proofs.Members.{any_in, in_any, in_map, map_in, in_keep, keep_in}
use Rattle.committee.specs.Committee.{AuthorityIndex, Committee}
use Rattle.committee_set.specs.AuthoritySet.{AuthoritySet, member, set_of, stake_of}
use Rattle.committee_set.proofs.Votes.{member_set_of}
use Rattle.committee_set.proofs.Quorums.{stake_mono, counted_quorum, quorum_member}
use Rattle.record_spec.specs.Reference.{BlockReference, TransactionLocator}
use Rattle.record_spec.specs.Block.{Block, author}
use Rattle.committee.proofs.Bounds.{more_quorum}
use Rattle.final_spec.specs.Voters.{votes_for, own_vote, voters, certifies, certifiers, is_final}
use Rattle.final_spec.proofs.Voters.{own_votes, votes_own}
use Rattle.final_spec.proofs.Spoken.{spoken_among, spoken_mono}

-- a block among bs that votes
pub record VoteAmong (bs : List Block) (l : TransactionLocator) : Type 0 where
  pub block : Block
  pub stands : block ∈ bs
  pub votes : votes_for block l ≡ true

-- every locator with a voter has a vote
pub voter_votes : (bs : List Block) (l : TransactionLocator) (r : BlockReference) (a : AuthorityIndex) → member (voters bs l r) a ≡ true → VoteAmong bs l
voter_votes bs l r a h = let s = spoken_among own_vote bs l r a h in record
    { block = s.block; stands = s.stands; votes = (own_votes s.block l a s.heard).0 }

-- where every vote for l is one for m too, so is every voter
pub voters_mono : (l m : TransactionLocator) (bs : List Block) → ((d : Block) → d ∈ bs → votes_for d l ≡ true → votes_for d m ≡ true) → (r : BlockReference)
    (a : AuthorityIndex)
    → member (voters bs l r) a ≡ true → member (voters bs m r) a ≡ true
voters_mono l m bs f r a h = spoken_mono own_vote l m bs own r a h
  where
    own : (d : Block) → d ∈ bs → (x : AuthorityIndex) → member (own_vote d l) x ≡ true → member (own_vote d m) x ≡ true
    own d k x e = let v = own_votes d l x e in votes_own d m x (f d k v.0) v.1

module _ (c : Committee) (bs : List Block) (l m : TransactionLocator) (f : (d : Block) → d ∈ bs → votes_for d l ≡ true → votes_for d m ≡ true) where
  pub certifies_mono : (b : Block) → certifies c bs l b ≡ true → certifies c bs m b ≡ true
  unfolding certifies
  certifies_mono b h =
      and_both _ _ (and_left (not b.marked) _ h)
      (more_quorum c (stake_of c (voters bs l b.reference)) (stake_of c (voters bs m b.reference))
      (stake_mono c (voters bs l b.reference) (voters bs m b.reference) (λ a k. voters_mono l m bs f b.reference a)) (and_right (not b.marked) _ h))

  -- and what is final for l is final for m
  pub final_mono : is_final c bs l ≡ true → is_final c bs m ≡ true
  unfolding is_final certifiers
  final_mono h =
      more_quorum c (stake_of c (set_of (map author (certifiers c bs l)))) (stake_of c (set_of (map author (certifiers c bs m))))
      (stake_mono c (set_of (map author (certifiers c bs l))) (set_of (map author (certifiers c bs m))) authors) h
    where
      authors : (a : AuthorityIndex) → a < length c → member (set_of (map author (certifiers c bs l))) a ≡ true → member
          (set_of (map author (certifiers c bs m))) a ≡ true
      authors a k e =
          let x = any_in (eqb a) (map author (certifiers c bs l)) (sym (member_set_of (map author (certifiers c bs l)) a) ∙ e) in
          let b = map_in author (certifiers c bs l) x.1 in
          let s = keep_in (certifies c bs l) bs b.1 in
          member_set_of (map author (certifiers c bs m)) a
          ∙ in_any (eqb a) (in_map author (in_keep (certifies c bs m) bs s.0 (certifies_mono b.0 s.1)))
          (ap (λ (n : AuthorityIndex). eqb a n) b.2 ∙ x.2)

-- a final locator has a vote
pub final_votes : (c : Committee) (bs : List Block) (l : TransactionLocator) → is_final c bs l ≡ true → VoteAmong bs l
unfolding is_final certifiers certifies
final_votes c bs l h =
    let all_of : AuthoritySet = set_of (map author (certifiers c bs l)) in
    let q = quorum_member c (λ a. member all_of a ≡ true) (counted_quorum c all_of (λ a. member all_of a ≡ true) (λ a k e. e) h) in
    let x = any_in (eqb q.0) (map author (certifiers c bs l)) (sym (member_set_of (map author (certifiers c bs l)) q.0) ∙ q.1) in
    let b = map_in author (certifiers c bs l) x.1 in
    let s = keep_in (certifies c bs l) bs b.1 in
    let vs : AuthoritySet = voters bs l b.0.reference in
    let v = quorum_member c (λ a. member vs a ≡ true) (counted_quorum c vs (λ a. member vs a ≡ true) (λ a k e. e) (and_right (not b.0.marked) _ s.1)) in
    voter_votes bs l b.0.reference v.0 v.1
