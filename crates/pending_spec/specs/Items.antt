-- Pending items: ranges of offsets of one entry, each with its votes (range_map.rs). Assumes nothing: these are definitions.
use Rattle.std.specs.Prelude.{ℕ, Bool, not, ◌&&◌, ◌||◌, ltb, leb, eqb}
use mathlib.Core.List.{List, [], ◌∷◌, ◌++◌, map, flatten}
use Rattle.std.proofs.Math.Option.{Option}
use Rattle.base.specs.Lists.{pick, find, keep}
use Rattle.committee.specs.Committee.{AuthorityIndex, Stake, Committee, total_stake, quorum_of}
use Rattle.committee_aggregator.specs.StakeAggregator.{StakeAggregator, no_votes, counted}
use Rattle.record_spec.specs.Reference.{TransactionLocatorRange, within}

-- 01: "entry position, start, end, votes low, votes high, stake"
pub record Item : Type 0 where
  pub position : ℕ
  pub start : ℕ
  pub end : ℕ
  pub aggregator : StakeAggregator

-- the item of six zero words
abbrev pub no_item : Item
no_item = record { position = 0; start = 0; end = 0; aggregator = no_votes }

-- 01: "Items ascend by position and start, and are disjoint"
unfoldable pub item_before : Item → Item → Bool
item_before x y = ltb x.position y.position || (eqb x.position y.position && leb x.end y.start)

-- the item holds the offset o of the entry at p
unfoldable pub item_holds : ℕ → ℕ → Item → Bool
item_holds p o x = eqb x.position p && within x.start x.end o

-- 01: "and not empty"
unfoldable pub item_full : Item → Bool
item_full x = ltb x.start x.end

-- the item that holds the offset o of the entry at p
unfoldable pub item_at : List Item → ℕ → ℕ → Option Item
item_at xs p o = find (item_holds p o) xs

-- the offset o of the entry at p falls inside the item: a cut there leaves two parts, neither empty
unfoldable pub falls_inside : ℕ → ℕ → Item → Bool
falls_inside p o x = eqb x.position p && (ltb x.start o && ltb o x.end)

-- the part of an item before o, and the part from o on
abbrev pub front_of : Item → ℕ → Item
front_of x o = record { position = x.position; start = x.start; end = o; aggregator = x.aggregator }

abbrev pub back_of : Item → ℕ → Item
back_of x o = record { position = x.position; start = o; end = x.end; aggregator = x.aggregator }

-- 01: "cuts an item at start and at end if these fall inside it"
unfoldable pub cut_item : ℕ → ℕ → Item → List Item
cut_item p o x = pick (falls_inside p o x) (front_of x o ∷ back_of x o ∷ []) (x ∷ [])

unfoldable pub cut_at : ℕ → ℕ → List Item → List Item
cut_at p o xs = flatten (map (cut_item p o) xs)

-- both cuts of a vote over start..end; 01: "An empty range does nothing"
unfoldable pub both_cuts : ℕ → ℕ → ℕ → List Item → List Item
both_cuts p start end xs = pick (ltb start end) (cut_at p end (cut_at p start xs)) xs

-- the item lies in start..end of the entry at p
unfoldable pub item_within : ℕ → ℕ → ℕ → Item → Bool
item_within p start end x = eqb x.position p && (leb start x.start && leb x.end end)

-- the item with one more vote
unfoldable pub voted_item : Committee → AuthorityIndex → Item → Item
voted_item c a x = record { position = x.position; start = x.start; end = x.end; aggregator = counted c x.aggregator a }

-- 01: "A vote over start..end cuts an item at start and at end ..; then each item in the range gets the vote. Items are never joined."
unfoldable pub vote_over : Committee → AuthorityIndex → ℕ → ℕ → ℕ → List Item → List Item
vote_over c a p start end xs =
    map (λ x. pick (item_within p start end x) (voted_item c a x) x) (both_cuts p start end xs)

-- the item stays after a vote over start..end of the entry at p: it lies outside, or has no quorum of the total stake
unfoldable pub stays : Stake → ℕ → ℕ → ℕ → Item → Bool
stays total p start end x = not (item_within p start end x && quorum_of total x.aggregator.stake)

-- 01: "an item that holds quorum after the vote leaves"
unfoldable pub after_leaving : Committee → ℕ → ℕ → ℕ → List Item → List Item
after_leaving c p start end xs = keep (stays (total_stake c) p start end) xs

-- an item of the entry at p, over start..end, with the vote of a
unfoldable pub first_vote : Committee → AuthorityIndex → ℕ → ℕ → ℕ → Item
first_vote c a p start end = record { position = p; start = start; end = end; aggregator = counted c no_votes a }

-- 01: "each run of shares becomes an item with its author's vote; `register` ignores `add`'s answer"
unfoldable pub registered : Committee → AuthorityIndex → ℕ → TransactionLocatorRange → Item
registered c a p r = first_vote c a p r.start r.end

-- the runs of a new block: it stands after all others, so its items come last
unfoldable pub register : Committee → AuthorityIndex → ℕ → List TransactionLocatorRange → List Item → List Item
register c a p runs xs = xs ++ map (registered c a p) runs
