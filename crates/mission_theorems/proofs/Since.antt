-- The part of the third statement about final shares: one that got a vote, and none in a block stored before its own, was announced.
-- Assumes nothing.
use mathlib.Core.Path.{◌≡◌, refl, sym, ◌∙◌, subst}
use mathlib.Core.Logic.{◌⊎◌, inl, inr, ◌↔◌}
use mathlib.Core.Bool.{Bool, true, false}
use mathlib.Core.List.{List, [], ◌∷◌, ◌++◌, map, map-append, concat, eq-nil-or-concat, concat-eq-append}
use Prim.Native.Nat.{ℕ, ◌+◌}
use native.Mathlib.Omega.{arith}
use lib.ListN.{length}
use Rattle.base.specs.Lists.{pick, any_of, holds, ◌∈◌, here, there}
use Rattle.base.proofs.Lists.{holds_some}
use Rattle.base.proofs.Members.{in_empty, in_left, in_right, in_append, in_map, in_cases, any_in, in_any}
use Rattle.committee.specs.Committee.{AuthorityIndex, Committee, broken}
use Rattle.committee.specs.Quorum.{HoldQuorum}
use Rattle.committee_set.proofs.Quorums.{quorum_mono, quorum_member}
use Rattle.record_spec.specs.Reference.{TransactionLocator, new_range, one_range, covers}
use Rattle.record_spec.specs.Block.{Statement, Block, author, is_share_at, voted_range}
use Rattle.store_spec.specs.Shares.{is_stored_share, StoredShare}
use Rattle.store_spec.proofs.Stored.{WellStored, one_reference}
use Rattle.store_spec.proofs.Shares.{stored_share, share_stored}
use Rattle.final_spec.specs.Ancestry.{VoteIn, by_accept, by_range, VotesFor, by_share, by_vote, Voter, Certificate, Final}
use Rattle.final_spec.proofs.Asked.{in_order_stored}
use Rattle.final_spec.proofs.Votes.{covered, is_covered, statement_vote}
use Rattle.final_spec.proofs.Ancestors.{ancestor_stored}
use Rattle.mission_theorems.specs.Feeds.{Accepted, stored_blocks}
use Rattle.mission_theorems.specs.Shares.{Vote, is_vote_for, votes_from, counted_votes, counted_voters, NoneLeft}
use Rattle.mission_theorems.specs.ThirdStatement.{ShareStands, stays, gone, VotedOnlySince, Announced, Start, engine_of, accepted_of}
use Rattle.mission_theorems.proofs.Storing.{StoreOf}
use Rattle.mission_theorems.proofs.Finals.{blocks_are, store_of}
use Rattle.mission_theorems.proofs.Shares.{share_stands}

-- ---- votes that are counted

abbrev voters : List Vote → List AuthorityIndex
voters vs = map (λ v. v.voter) vs

-- a statement that votes is counted
voted_from : (k : ℕ) (a : AuthorityIndex) (i : ℕ) (ss : List Statement) (l : TransactionLocator) (s : Statement) → s ∈ ss → is_vote_for l s ≡ true → a ∈ voters
    (votes_from k a i ss l)
unfolding votes_from
voted_from k a i [] l s' x'' h = elim x'' [ ]
voted_from k a i (s ∷ ss) l s' here h = rw h here
voted_from k a i (x ∷ ss) l s (there m) h = go (is_vote_for l x) (voted_from k a (i + 1) ss l s m h)
  where
    go : (t : Bool) → a ∈ voters (votes_from k a (i + 1) ss l)
        → a ∈ voters (pick t (record { place = record { feed = k; statement = i }; voter = a } ∷ votes_from k a (i + 1) ss l) (votes_from k a (i + 1) ss l))
    go true n = there n
    go false n = n

-- a block votes for the locator where one of its statements does
pub vote_meant : (b : Block) (l : TransactionLocator) → VoteIn b l ↔ (any_of (is_vote_for l) b.statements ≡ true)
unfolding is_vote_for holds voted_range one_range new_range
vote_meant b l = (to, from)
  where
    to : VoteIn b l → any_of (is_vote_for l) b.statements ≡ true
    to (by_accept m) = in_any (is_vote_for l) m (is_covered (one_range l) l (record { of = refl; from = omega arith; below = omega arith }))
    to (by_range r m e f g) = in_any (is_vote_for l) m (is_covered r l (record { of = e; from = f; below = g }))

    from : any_of (is_vote_for l) b.statements ≡ true → VoteIn b l
    from h =
        let x = any_in (is_vote_for l) b.statements h in
        let r = holds_some (λ q. covers q l) (voted_range x.0) x.2 in
        statement_vote b l r.0 x.0 x.1 r.1 (covered r.0 l r.2)

-- its vote is counted
block_voted : (k i : ℕ) (b : Block) (l : TransactionLocator) → VoteIn b l → author b ∈ voters (votes_from k (author b) i b.statements l)
block_voted k i b l v =
    let x = any_in (is_vote_for l) b.statements ((vote_meant b l).0 v) in
    voted_from k (author b) i b.statements l x.0 x.1 x.2

module _ (l : TransactionLocator) (own : Accepted) (earlier : List Accepted) (its : own.block.reference ≡ l.block)
    (share : is_share_at own.block l.offset ≡ true) where
  share_since : (since : List Accepted) → is_stored_share (stored_blocks (since ++ own ∷ earlier)) l ≡ true
  unfolding stored_blocks
  share_since since =
      share_stored (stored_blocks (since ++ own ∷ earlier)) l (record
      { block = own.block; stored = in_map (λ (a : Accepted). a.block) (in_right since here); named = its; shared = share })

  -- a vote in the share's own block or a later one is counted
  since_counted : (since : List Accepted) (b : Block) → VoteIn b l → (b ∈ stored_blocks since) ⊎ (b ≡ own.block) → author b ∈ voters
      (counted_votes (since ++ own ∷ earlier) l)
  unfolding counted_votes stored_blocks
  since_counted [] b v (inl m) = absurd (in_empty m)
  since_counted [] b v (inr e) =
      rw (share_since [], map-append) (in_right (voters (counted_votes earlier l)) (rw (← e) (block_voted (length earlier) 0 b l v)))
  since_counted (a ∷ since) b v h = rw (share_since (a ∷ since), map-append) (go (λ k. since_counted since b v k) h)
    where
      before : List Vote
      before = counted_votes (since ++ own ∷ earlier) l

      new : List Vote
      new = votes_from (length (since ++ own ∷ earlier)) (author a.block) 0 a.block.statements l

      first : (b ∈ stored_blocks since → author b ∈ voters before) → (b ≡ a.block) ⊎ (b ∈ stored_blocks since) → author b ∈ (voters before ++ voters new)
      first ih (inl e) = in_right (voters before) (rw (← e) (block_voted (length (since ++ own ∷ earlier)) 0 b l v))
      first ih (inr m) = in_left (voters new) (ih m)

      go : ((b ∈ stored_blocks since) ⊎ (b ≡ own.block) → author b ∈ voters before) → (b ∈ stored_blocks (a ∷ since)) ⊎ (b ≡ own.block) → author b ∈
          (voters before ++ voters new)
      go ih (inl m) = first (λ k. ih (inl k)) (in_cases m)
      go ih (inr e) = in_left (voters new) (ih (inr e))

-- ---- voters of a final share

module _ (as' : List Accepted) (l : TransactionLocator) (w : WellStored (stored_blocks as')) (stored : is_stored_share (stored_blocks as') l ≡ true)
    (s : VotedOnlySince as' l) where
  -- the block that has the share is its own
  own_share : is_share_at s.own.block l.offset ≡ true
  unfolding stored_blocks
  own_share =
      let x : StoredShare (stored_blocks as') l = stored_share (stored_blocks as') l stored in
      let mine : s.own ∈ as' = subst (λ (ys : List Accepted). s.own ∈ ys) (sym s.splits) (in_right s.since here) in
      let one : x.block ≡ s.own.block = one_reference w x.stored (in_map (λ (a : Accepted). a.block) mine) (x.named ∙ sym s.its_own) in
      subst (λ (b : Block). is_share_at b l.offset ≡ true) one x.shared

  -- every stored vote for it is counted
  vote_counted : (b : Block) → b ∈ stored_blocks as' → VoteIn b l → author b ∈ voters (counted_votes as' l)
  unfolding stored_blocks
  vote_counted b m v =
      rw s.splits (since_counted l s.own s.earlier s.its_own own_share s.since b v
      (go (in_append (stored_blocks s.since) (rw (s.splits, map-append) at m))))
    where
      own_or : (b ≡ s.own.block) ⊎ (b ∈ stored_blocks s.earlier) → (b ∈ stored_blocks s.since) ⊎ (b ≡ s.own.block)
      own_or (inl e) = inr e
      own_or (inr k) = absurd (s.none_before b k v)

      go : (b ∈ stored_blocks s.since) ⊎ (b ∈ stored_blocks (s.own ∷ s.earlier)) → (b ∈ stored_blocks s.since) ⊎ (b ≡ s.own.block)
      go (inl k) = inl k
      go (inr k) = own_or (in_cases k)

  -- so every voter of a certifying block is a counted voter
  voter_counted : (b : Block) (a : AuthorityIndex) → Voter (stored_blocks as') b l a → a ∈ counted_voters l (counted_votes as' l)
  unfolding counted_voters
  voter_counted b a v = subst (λ (x : AuthorityIndex). x ∈ counted_voters l (counted_votes as' l)) v.authored (go v.votes)
    where
      go : VotesFor v.voting l → author v.voting ∈ counted_voters l (counted_votes as' l)
      go (by_share e h) = rw e here
      go (by_vote k) = there (vote_counted v.voting (ancestor_stored v.ancestor) k)

  -- the counted voters of a final share hold quorum stake
  pub final_counted : (c : Committee) → Final c (stored_blocks as') l → HoldQuorum c (λ a. a ∈ counted_voters l (counted_votes as' l))
  final_counted c f =
      let b : Certificate c (stored_blocks as') l (quorum_member c _ f).0 = (quorum_member c _ f).1 in
      quorum_mono c _ _ (λ a v. voter_counted b.block a v) b.quorum

-- ---- announced

-- once the counted voters hold quorum stake and there is a counted vote, some vote left quorum
some_left : (c : Committee) (l : TransactionLocator) (vs : List Vote) (a : AuthorityIndex) → a ∈ voters vs → HoldQuorum c (λ b. b ∈ counted_voters l vs) →
    NoneLeft c l vs → ⊥
some_left c l vs a m q n = go (eq-nil-or-concat vs)
  where
    go : (vs ≡ []) ⊎ ((front : List Vote) × (last : Vote) × (vs ≡ concat front last)) → ⊥
    go (inl e) = in_empty (rw e at m)
    go (inr r) =
        let e : vs ≡ r.0 ++ r.1 ∷ [] = r.2 ∙ concat-eq-append r.0 r.1 in
        n r.0 r.1 [] e (subst (λ (us : List Vote). HoldQuorum c (λ b. b ∈ counted_voters l us)) e q)

-- "A final stored share that got a vote, and none in a block stored before its own, was announced so."
pub final_announced : (c : Committee) → broken c ≡ false → (t : Start) (l : TransactionLocator) → is_stored_share (stored_blocks (accepted_of c t)) l ≡ true →
    Final c (stored_blocks (accepted_of c t)) l
    → VotedOnlySince (accepted_of c t) l → Announced (accepted_of c t) l
final_announced c b t l stored f s = go (share_stands c b t l stored)
  where
    as' : List Accepted
    as' = accepted_of c t

    well : WellStored (stored_blocks as')
    well =
        let h : StoreOf c (engine_of c t).store as' = store_of c t in
        subst WellStored (blocks_are c (engine_of c t).store as' h) (in_order_stored c (engine_of c t).store h.order)

    go : ShareStands c (engine_of c t) as' l → Announced as' l
    go (gone earlier v later e n q p told) = (v.place, rw told here)
    go (stays st n y p told) =
        let v = s.voted in
        absurd (some_left c l (counted_votes as' l) (author v.0) (vote_counted as' l well stored s v.0 v.1 v.2)
        (final_counted as' l well stored s c f) n)
