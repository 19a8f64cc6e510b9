-- The voters of a block, computed and as a relation. Assumes nothing.
use mathlib.Core.Path.{◌≡◌, refl, sym}
use mathlib.Core.Logic.{◌↔◌}
use mathlib.Core.Bool.{Bool, true, false}
use mathlib.Core.List.{List}
use Prim.Native.Nat.{◌<◌}
use borrow.Author.Tests.{eq-eqb, eqb-true}
use Rattle.base.specs.Lists.{pick, ◌∈◌}
use Rattle.base.proofs.Tests.{not_both}
use Rattle.committee.specs.Committee.{AuthorityIndex}
use Rattle.committee_set.specs.AuthoritySet.{nobody, member, inserted}
use Rattle.committee_set.proofs.Words.{Small, small_nobody, small_inserted}
use Rattle.committee_set.proofs.Votes.{member_nobody, member_inserted}
use Rattle.record_spec.specs.Reference.{TransactionLocator}
use Rattle.record_spec.specs.Block.{Block, author}
use Rattle.final_spec.specs.Voters.{votes_for, own_vote, voters}
use Rattle.final_spec.specs.Ancestry.{Ancestor, Voter}
use Rattle.store_spec.proofs.Stored.{WellStored}
use Rattle.final_spec.proofs.Votes.{votes_for_lem, for_votes}
use Rattle.final_spec.proofs.Spoken.{speaker_counted, counted_speaker, spoken_equal}

-- whose own vote counts votes, and is the author
pub own_votes : (b : Block) (l : TransactionLocator) (a : AuthorityIndex) → member (own_vote b l) a ≡ true → (votes_for b l ≡ true) × (author b ≡ a)
unfolding own_vote
own_votes b l a h = split (votes_for b l) h
  where
    split : (t : Bool) → member (pick t (inserted nobody (author b)) nobody) a ≡ true → (t ≡ true) × (author b ≡ a)
    split true k = (refl, sym (eqb-true a (author b) (rw (member_inserted nobody (author b) a, member_nobody a) at k)))
    split false k = absurd (not_both k (member_nobody a))

pub votes_own : (b : Block) (l : TransactionLocator) (a : AuthorityIndex) → votes_for b l ≡ true → author b ≡ a → member (own_vote b l) a ≡ true
unfolding own_vote
votes_own b l a h e = rw (h, member_inserted nobody (author b) a, member_nobody a, eq-eqb a (author b) (sym e))

-- the own vote of a known author fits two words
own_small : (b : Block) (l : TransactionLocator) → author b < 128 → Small (own_vote b l)
unfolding own_vote
own_small b l h = split (votes_for b l)
  where
    split : (t : Bool) → Small (pick t (inserted nobody (author b)) nobody)
    split true = small_inserted nobody (author b) h small_nobody
    split false = small_nobody

-- every voter is counted
pub voter_counted : {bs : List Block} → WellStored bs → (l : TransactionLocator) (a : AuthorityIndex) (b : Block) → b ∈ bs → Voter bs b l a → member
    (voters bs l b.reference) a ≡ true
voter_counted w l a b m v =
    speaker_counted own_vote w l a b m (record {
      speaking = v.voting;
      ancestor = v.ancestor;
      heard = votes_own v.voting l a
          (for_votes v.voting l v.votes) v.authored;
    })

-- and nobody else is
pub counted_voter : {bs : List Block} → WellStored bs → (l : TransactionLocator) (a : AuthorityIndex) (b : Block) → b ∈ bs → member
    (voters bs l b.reference) a ≡ true → Voter bs b l a
counted_voter w l a b m h =
    let s = counted_speaker own_vote w l a b m h in
    let v = own_votes s.speaking l a s.heard in
    record { voting = s.speaking; ancestor = s.ancestor; votes = votes_for_lem s.speaking l v.0; authored = v.1 }

-- the computed voters of a stored block are its voters
pub voters_iff : {bs : List Block} → WellStored bs → (l : TransactionLocator) (a : AuthorityIndex) (b : Block) → b ∈ bs →
    (member (voters bs l b.reference) a ≡ true) ↔ Voter bs b l a
voters_iff w l a b m = (counted_voter w l a b m, voter_counted w l a b m)

-- 01: "they depend on that ancestry alone, so two stores agreeing on it agree on them": the same two words
pub voters_equal : {bs cs : List Block} → WellStored bs → WellStored cs → ((x : Block) → x ∈ bs → author x < 128) → ((x : Block) → x ∈ cs → author x < 128)
    → (b : Block) → b ∈ bs → ((x : Block) → Ancestor bs x b → x ∈ cs) → (l : TransactionLocator) → voters bs l b.reference ≡ voters cs l b.reference
voters_equal v w f g b m h l = spoken_equal own_vote v w l (λ x k. own_small x l (f x k)) (λ x k. own_small x l (g x k)) b m h
