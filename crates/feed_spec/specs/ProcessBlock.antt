-- `process_block`: the votes of a block on the pending items, and the events (committee.rs). Assumes nothing: these are definitions.
use Rattle.std.specs.Prelude.{ℕ, ◌+◌, max, Bool, length}
use mathlib.Core.List.{List, [], ◌∷◌, ◌++◌, map, flatten}
use Rattle.std.proofs.Math.Option
use Rattle.std.proofs.Math.Option.{Option, none, some}
use Rattle.base.specs.Lists.{pick}
use Rattle.committee.specs.Committee.{AuthorityIndex, Committee}
use Rattle.committee_aggregator.specs.StakeAggregator.{has_quorum}
use Rattle.record_spec.specs.Reference.{BlockReference, locator, TransactionLocatorRange, offsets}
use Rattle.record_spec.specs.Block.{Statement, Block, author, voted_range, shared_ranges}
use Rattle.store_spec.specs.Layout.{Entry, blocks_at, position_of, lookup}
use Rattle.store_spec.specs.Shares.{is_stored_share}
use Rattle.pending_spec.specs.Items.{Item, item_at, both_cuts, vote_over, after_leaving, register}

-- 01: "An event is three words: kind (1 processed, 2 late, 3 unknown), statement index, offset"
pub record Event : Type 0 where
  pub kind : ℕ
  pub statement : ℕ
  pub offset : ℕ

unfoldable pub event_words : Event → List ℕ
event_words v = v.kind ∷ v.statement ∷ v.offset ∷ []

unfoldable pub words_of : List Event → List ℕ
words_of vs = flatten (map event_words vs)

-- 01: "an offset with no item is late if it is a stored share, else unknown"
unfoldable pub missed : List Entry → BlockReference → ℕ → ℕ
missed es r o = pick (is_stored_share (blocks_at es) (locator r o)) 2 3

-- 01: "an item that holds quorum after the vote leaves, each offset an event processed"; an item without quorum gives no event
-- (whether the item at the offset, if there is one, holds quorum)
unfoldable pub event_at : List Entry → BlockReference → ℕ → ℕ → Option Bool → List Event
event_at es r i o none = record { kind = missed es r o; statement = i; offset = o } ∷ []
event_at es r i o (some quorum) = pick quorum (record { kind = 1; statement = i; offset = o } ∷ []) []

unfoldable pub event_of : Committee → List Entry → BlockReference → ℕ → ℕ → Option Item → List Event
event_of c es r i o x = event_at es r i o (Option.map (λ y. has_quorum c y.aggregator) x)

-- what the votes of a block leave so far: the items, the events, and the most items that there were at once
pub record Processing : Type 0 where
  pub items : List Item
  pub events : List Event
  pub most : ℕ

-- the vote of author a by statement i, if it is one, over a range of the entry at p (0 where the block is not stored)
unfoldable pub vote : Committee → List Entry → AuthorityIndex → ℕ → Option TransactionLocatorRange → Processing → Processing
vote c es a i none z = z
vote c es a i (some r) z =
    let p : ℕ = position_of (lookup es r.block) in
    let voted : List Item = vote_over c a p r.start r.end z.items in
    record {
      items = after_leaving c p r.start r.end voted;
      events = z.events ++ flatten (map (λ o. event_of c es r.block i o (item_at voted p o)) (offsets r));
      most = max z.most (length (both_cuts p r.start r.end z.items));
    }

-- 01: "Then the accepts and ranges in statement order": the statements from index i on; "Rejects do nothing", and shares are registered already
unfoldable pub votes : Committee → List Entry → AuthorityIndex → ℕ → List Statement → Processing → Processing
votes c es a i [] z = z
votes c es a i (s ∷ ss) z = votes c es a (i + 1) ss (vote c es a i (voted_range s) z)

-- 01: "First each run of shares becomes an item with its author's vote"
unfoldable pub registering : Committee → List Entry → Block → List Item → Processing
registering c es b xs =
    let more : List Item = register c (author b) (position_of (lookup es b.reference)) (shared_ranges b) xs in
    record { items = more; events = []; most = length more }

-- the block's shares, then its votes; es are the stored entries, and "the block being fed counts as stored"
unfoldable pub process_block : Committee → List Entry → Block → List Item → Processing
process_block c es b xs = votes c es (author b) 0 b.statements (registering c es b xs)
