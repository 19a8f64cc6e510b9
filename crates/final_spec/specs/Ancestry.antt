-- Ancestry, votes and quorum stake as relations: what the computed answers mean. Assumes nothing: these are definitions.
use Rattle.std.specs.Prelude.{◌≤◌, ◌<◌, ◌≡◌, true, false, List}
use Rattle.base.specs.Lists.{◌∈◌}
use Rattle.committee.specs.Committee.{AuthorityIndex, Committee}
use Rattle.committee.specs.Quorum.{HoldQuorum}
use Rattle.record_spec.specs.Reference.{TransactionLocator, TransactionLocatorRange}
use Rattle.record_spec.specs.Block.{accept, vote_range, Block, author, is_share_at}

-- 01: "A block's inclusive ancestry is itself, its includes, theirs and so on, marked ones too", among the stored blocks bs
pub data Ancestor (bs : List Block) (d : Block) : Block → Type 0 where
  itself : d ∈ bs → Ancestor bs d d
  included : {b i : Block} → b ∈ bs → i.reference ∈ b.includes → Ancestor bs d i → Ancestor bs d b

-- an accept of the locator or a range covering it
pub data VoteIn (b : Block) (l : TransactionLocator) : Type 0 where
  by_accept : accept l ∈ b.statements → VoteIn b l
  by_range : (r : TransactionLocatorRange) → vote_range r ∈ b.statements → r.block ≡ l.block → r.start ≤ l.offset → l.offset < r.end → VoteIn b l

-- 01: "with the share, an accept or a range covering it"
pub data VotesFor (b : Block) (l : TransactionLocator) : Type 0 where
  by_share : b.reference ≡ l.block → is_share_at b l.offset ≡ true → VotesFor b l
  by_vote : VoteIn b l → VotesFor b l

-- 01: "Its voters for a locator are the authors in that ancestry" with such a vote
pub record Voter (bs : List Block) (b : Block) (l : TransactionLocator) (a : AuthorityIndex) : Type 0 where
  pub voting : Block
  pub ancestor : Ancestor bs voting b
  pub votes : VotesFor voting l
  pub authored : author voting ≡ a

-- 01: "An unmarked block with quorum voters certifies": a stored one of author a
pub record Certificate (c : Committee) (bs : List Block) (l : TransactionLocator) (a : AuthorityIndex) : Type 0 where
  pub block : Block
  pub stored : block ∈ bs
  pub unmarked : block.marked ≡ false
  pub quorum : HoldQuorum c (Voter bs block l)
  pub authored : author block ≡ a

-- 01: "A locator is final when the certifiers' authors hold quorum, each author once"
abbrev pub Final : Committee → List Block → TransactionLocator → Type 0
Final c bs l = HoldQuorum c (Certificate c bs l)
