-- Stored shares, their counted votes and voters, and what was announced. Assumes nothing: these are definitions.
use Rattle.std.specs.Prelude.{ℕ, ◌+◌, ◌≡◌, ◌↔◌, Bool, ◌&&◌, List, [], ◌∷◌, ◌++◌, map, eqb, length}
use Rattle.std.proofs.Math.ListN.{get_elem?}
use Rattle.base.specs.Lists.{pick, holds, sum_of, ◌∈◌, Once}
use Rattle.committee.specs.Committee.{AuthorityIndex, Committee, get_stake}
use Rattle.committee.specs.Quorum.{HoldQuorum}
use Rattle.record_spec.specs.Reference.{BlockReference, TransactionLocator, same_reference, covers}
use Rattle.record_spec.specs.Block.{Statement, Block, author, voted_range}
use Rattle.store_spec.specs.Shares.{is_stored_share}
use Rattle.feed_spec.specs.ProcessBlock.{Event}
use Rattle.feed_spec.specs.Pending.{Standing}
use Rattle.mission_theorems.specs.Feeds.{Accepted, stored_blocks}

-- a statement of an accepted block: how many were accepted before the block, and the statement's index
pub record Place : Type 0 where
  pub feed : ℕ
  pub statement : ℕ

pub record Vote : Type 0 where
  pub place : Place
  pub voter : AuthorityIndex

-- an accept of the locator or a range covering it
unfoldable pub is_vote_for : TransactionLocator → Statement → Bool
is_vote_for l s = holds (λ r. covers r l) (voted_range s)

-- 01: "A vote for a locator is there an accept of it or a range covering it": those among a block's statements from index i on
unfoldable pub votes_from : ℕ → AuthorityIndex → ℕ → List Statement → TransactionLocator → List Vote
votes_from k a i [] l = []
votes_from k a i (s ∷ ss) l =
    pick (is_vote_for l s)
    (record { place = record { feed = k; statement = i }; voter = a } ∷ votes_from k a (i + 1) ss l)
    (votes_from k a (i + 1) ss l)

-- 01: "A share's counted votes stand in its own block or one stored later, and go by feed, then statement": the first vote first
unfoldable pub counted_votes : List Accepted → TransactionLocator → List Vote
counted_votes [] l = []
counted_votes (a ∷ earlier) l =
    pick (is_stored_share (stored_blocks (a ∷ earlier)) l)
    (counted_votes earlier l ++ votes_from (length earlier) (author a.block) 0 a.block.statements l)
    []

-- 01: "its counted voters are its author and the authors of its counted votes so far"
unfoldable pub counted_voters : TransactionLocator → List Vote → List AuthorityIndex
counted_voters l vs = l.block.authority ∷ map (λ v. v.voter) vs

-- the vote v, after those before it, left the counted voters with quorum stake
abbrev pub LeftQuorum : Committee → TransactionLocator → List Vote → Vote → Type 0
LeftQuorum c l earlier v = HoldQuorum c (λ a. a ∈ counted_voters l (earlier ++ v ∷ []))

-- no vote of the list left quorum stake
abbrev pub NoneLeft : Committee → TransactionLocator → List Vote → Type 0
NoneLeft c l vs = (earlier : List Vote) (v : Vote) (later : List Vote) → vs ≡ earlier ++ v ∷ later → LeftQuorum c l earlier v → ⊥

-- "the stake and number of its counted voters": each owner once
pub record Tally (c : Committee) (voters : List AuthorityIndex) (st : Standing) : Type 0 where
  pub owners : List AuthorityIndex
  pub once : Once owners
  pub exactly : (a : AuthorityIndex) → (a ∈ owners) ↔ (a ∈ voters)
  pub stake : st.stake ≡ sum_of (map (get_stake c) owners)
  pub number : st.voters ≡ length owners

-- the statement of that index votes under the reference
unfoldable pub votes_under : Block → ℕ → BlockReference → Bool
votes_under b i r = holds (λ s. holds (λ q. same_reference q.block r) (voted_range s)) (get_elem? b.statements i)

-- 01: "An event announces its offset under its statement's reference": as processed
unfoldable pub announces : Block → TransactionLocator → Event → Bool
announces b l v = eqb v.kind 1 && (eqb v.offset l.offset && votes_under b v.statement l.block)

unfoldable pub announced_by : ℕ → Block → List Event → TransactionLocator → List Place
announced_by k b [] l = []
announced_by k b (v ∷ vs) l =
    pick (announces b l v)
    (record { feed = k; statement = v.statement } ∷ announced_by k b vs l)
    (announced_by k b vs l)

-- the statements that announced the locator as processed, the first first, each as often as it did
unfoldable pub announcements : List Accepted → TransactionLocator → List Place
announcements [] l = []
announcements (a ∷ earlier) l = announcements earlier l ++ announced_by (length earlier) a.block a.events l
