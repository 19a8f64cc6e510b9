-- Voters, certificates and finality over a list of blocks, the newest first (finalization_interpreter.rs). Assumes nothing: these are definitions.
use Rattle.std.specs.Prelude.{Bool, not, ◌&&◌, List, [], ◌∷◌, map}
use Rattle.base.specs.Lists.{pick, any_of, keep}
use Rattle.committee.specs.Committee.{Committee, is_quorum}
use Rattle.committee_set.specs.AuthoritySet.{AuthoritySet, nobody, inserted, united, set_of, stake_of}
use Rattle.record_spec.specs.Reference.{BlockReference, TransactionLocator, same_reference, covers}
use Rattle.record_spec.specs.Block.{Block, author, spans}

-- 01: "with the share, an accept or a range covering it"
unfoldable pub votes_for : Block → TransactionLocator → Bool
votes_for b l = any_of (λ r. covers r l) (spans b)

-- whom a block speaks for at a locator
abbrev pub Speech : Type 0
Speech = Block → TransactionLocator → AuthoritySet

-- the author of a block that votes
unfoldable pub own_vote : Speech
own_vote b l = pick (votes_for b l) (inserted nobody (author b)) nobody

-- the sets, together
unfoldable pub unions : List AuthoritySet → AuthoritySet
unions [] = nobody
unions (v ∷ vs) = united v (unions vs)

-- 01: "A block's inclusive ancestry is itself, its includes, theirs and so on, marked ones too": all for whom its blocks speak. Includes are
-- stored before the block, so they stand later in the list
unfoldable pub spoken : Speech → List Block → TransactionLocator → BlockReference → AuthoritySet
spoken own [] l r = nobody
spoken own (b ∷ older) l r =
    pick (same_reference b.reference r)
    (united (own b l) (unions (map (spoken own older l) b.includes)))
    (spoken own older l r)

-- 01: "Its voters for a locator are the authors in that ancestry with the share, an accept or a range covering it"
abbrev pub voters : List Block → TransactionLocator → BlockReference → AuthoritySet
voters bs l r = spoken own_vote bs l r

-- 01: "An unmarked block with quorum voters certifies"
unfoldable pub certifies : Committee → List Block → TransactionLocator → Block → Bool
certifies c bs l b = not b.marked && is_quorum c (stake_of c (voters bs l b.reference))

unfoldable pub certifiers : Committee → List Block → TransactionLocator → List Block
certifiers c bs l = keep (certifies c bs l) bs

-- 01: "A locator is final when the certifiers' authors hold quorum, each author once, also where its block is not stored"
unfoldable pub is_final : Committee → List Block → TransactionLocator → Bool
is_final c bs l = is_quorum c (stake_of c (set_of (map author (certifiers c bs l))))
