-- What a block's votes leave: items in order, no more of them than were counted, and no more events than offsets. Assumes nothing.
use mathlib.Core.Path.{◌≡◌, refl}
use mathlib.Core.List.{List, [], ◌∷◌, map, flatten}
use mathlib.Core.Option.{Option, none, some}
use mathlib.Core.Bool.{Bool, true, false}
use Prim.Native.Nat.{ℕ, ◌+◌, ◌-◌, ◌*◌, ◌≤◌, ◌<◌}
use native.Mathlib.Omega.{arith}
use lib.ListN.{length, length-append}
use Rattle.base.specs.Lists.{pick, find, sum_of}
use Rattle.base.proofs.Lists.{Every, length_flatten, length_count_from}
use Rattle.base.proofs.Orders.{same_refl}
use Rattle.committee.specs.Committee.{AuthorityIndex, Committee, known}
use Rattle.committee_aggregator.specs.StakeAggregator.{has_quorum}
use Rattle.record_spec.specs.Reference.{BlockReference, same_reference, TransactionLocatorRange, offsets}
use Rattle.record_spec.specs.Block.{Statement, Block, author, voted_range, counted_offsets, event_room}
use Rattle.store_spec.specs.Layout.{Entry, position_of, lookup}
use Rattle.pending_spec.specs.Items.{Item, item_at, vote_over}
use Rattle.pending_spec.proofs.Items.{Ordered, ordered_vote_over, ordered_after_leaving}
use Rattle.pending_spec.proofs.Order.{Pending, pending_vote_over, pending_after_leaving, pending_register, ordered_register, length_vote_over}
use Rattle.pending_spec.proofs.Order.{length_after_leaving}
use Rattle.feed_spec.specs.ProcessBlock.{Event, event_words, words_of, event_at, event_of, Processing, vote, votes, registering, process_block}

-- a new entry is found by its reference
pub lookup_new : (es : List Entry) (new : Entry) → lookup (new ∷ es) new.block.reference ≡ some new
unfolding lookup find same_reference
lookup_new es new = rw (same_refl _)

-- items in order, and no more than were counted
pub record Sound (c : Committee) (es : List Entry) (z : Processing) : Type 0 where
  pub ordered : Ordered z.items
  pub pending : Every (Pending c es) z.items
  pub few : length z.items ≤ z.most

module _ (c : Committee) (es : List Entry) (a : AuthorityIndex) (k : known c a ≡ true) where
  pub sound_vote : (i : ℕ) (r : Option TransactionLocatorRange) (z : Processing) → Sound c es z → Sound c es (vote c es a i r z)
  unfolding vote
  sound_vote i none z h = h
  sound_vote i (some r) z h =
      let p : ℕ = position_of (lookup es r.block) in
      let after : List Item = vote_over c a p r.start r.end z.items in
      record {
        ordered = ordered_after_leaving c p r.start r.end after (ordered_vote_over c a p r.start r.end z.items h.ordered);
        pending = pending_after_leaving c es p r.start r.end after (pending_vote_over c es a k p r.start r.end z.items h.pending);
        few = omega (arith, length_after_leaving c p r.start r.end after, length_vote_over c a p r.start r.end z.items);
      }

  sound_votes : (i : ℕ) (ss : List Statement) (z : Processing) → Sound c es z → Sound c es (votes c es a i ss z)
  unfolding votes
  sound_votes i [] z h = h
  sound_votes i (s ∷ ss) z h = sound_votes (i + 1) ss (vote c es a i (voted_range s) z) (sound_vote i (voted_range s) z h)

-- a block that stands last, with items that were in order before it: its shares registered
pub sound_registered : (c : Committee) (es : List Entry) (new : Entry) → Every (λ e. e.position < new.position) es → known c (author new.block) ≡ true
    → (xs : List Item) → Ordered xs → Every (Pending c es) xs → Sound c (new ∷ es) (registering c (new ∷ es) new.block xs)
unfolding registering position_of
sound_registered c es new last k xs o p =
    rw (lookup_new es new) (record { ordered = ordered_register c es new last xs p o; pending = pending_register c es new last k xs p; few = omega arith })

-- and then its votes
pub sound_process_block : (c : Committee) (es : List Entry) (new : Entry) → Every (λ e. e.position < new.position) es → known c (author new.block) ≡ true
    → (xs : List Item) → Ordered xs → Every (Pending c es) xs → Sound c (new ∷ es) (process_block c (new ∷ es) new.block xs)
unfolding process_block
sound_process_block c es new last k xs o p =
    sound_votes c (new ∷ es) (author new.block) k 0 new.block.statements _ (sound_registered c es new last k xs o p)

-- ---- events

one_event : (c : Committee) (es : List Entry) (r : BlockReference) (i o : ℕ) (x : Option Item) → length (event_of c es r i o x) ≤ 1
unfolding event_at event_of
one_event c es r i o none = omega arith
one_event c es r i o (some x) = go (has_quorum c x.aggregator)
  where
    go : (t : Bool) → length {A = Event} (pick t (record { kind = 1; statement = i; offset = o } ∷ []) []) ≤ 1
    go true = omega arith
    go false = omega arith

module _ (c : Committee) (es : List Entry) (a : AuthorityIndex) where
  pub events_vote : (i : ℕ) (r : Option TransactionLocatorRange) (z : Processing) → length (vote c es a i r z).events ≤ length z.events + counted_offsets r
  unfolding vote counted_offsets offsets
  events_vote i none z = omega arith
  events_vote i (some r) z =
      let p : ℕ = position_of (lookup es r.block) in
      let after : List Item = vote_over c a p r.start r.end z.items in
      let event : ℕ → List Event = λ o. event_of c es r.block i o (item_at after p o) in
      omega (
        arith,
        length-append z.events (flatten (map event (offsets r))),
        length_flatten event (λ o. one_event c es r.block i o (item_at after p o)) (offsets r),
        length_count_from r.start (r.end - r.start),
      )

  events_votes : (i : ℕ) (ss : List Statement) (z : Processing) → length (votes c es a i ss z).events ≤ length z.events + sum_of
      (map (λ s. counted_offsets (voted_range s)) ss)
  unfolding votes sum_of
  events_votes i [] z = omega arith
  events_votes i (s ∷ ss) z = omega (arith, events_vote i (voted_range s) z, events_votes (i + 1) ss (vote c es a i (voted_range s) z))

-- a block's events fit the words that are asked for it
pub events_process_block : (c : Committee) (es : List Entry) (b : Block) (xs : List Item) → 3 * length (process_block c es b xs).events ≤ event_room b
unfolding process_block registering event_room
events_process_block c es b xs = omega (arith, events_votes c es (author b) 0 b.statements (registering c es b xs))

-- ---- words of events

pub length_words : (vs : List Event) → length (words_of vs) ≡ 3 * length vs
unfolding words_of flatten event_words
length_words [] = refl
length_words (v ∷ vs) = omega (arith, length_words vs)
