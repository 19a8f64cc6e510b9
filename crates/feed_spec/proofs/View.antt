-- A block's shares and votes, and the pending question, as one locator sees them. Assumes nothing.
use mathlib.Core.Path.{◌≡◌, refl, sym, ap, ◌∙◌}
use mathlib.Core.Bool.{Bool, true, false, ◌&&◌, and-false}
use mathlib.Core.List.{List, [], ◌∷◌, ◌++◌, map, flatten, append-nil}
use mathlib.Core.Option
use mathlib.Core.Option.{Option, none, some, some-injective, none-ne-some}
use Prim.Native.Nat.{ℕ, zero, suc, ◌+◌, ◌-◌, ◌<◌}
use native.Mathlib.Omega.{arith}
use native.Mathlib.Decide.{ℕ_discrete}
use lib.Dec.{eqb}
use borrow.Author.Tests.{eq-eqb, ne_eqb, eqb-true}
use Rattle.base.specs.Lists.{pick, all_of, keep, find, count_from, ◌∈◌}
use Rattle.base.specs.Le.{Bytes}
use Rattle.base.specs.Checks.{passes, refused, answered}
use Rattle.base.proofs.Tests.{and_left, and_right, same_test}
use Rattle.base.proofs.Lists.{Every, every, every_in, find_passes, find_in, keep_append}
use Rattle.committee.specs.Committee.{AuthorityIndex, Committee, broken}
use Rattle.committee_set.specs.AuthoritySet.{number_of_voters}
use Rattle.committee_aggregator.specs.StakeAggregator.{StakeAggregator, no_votes, counted, has_quorum}
use Rattle.record_spec.specs.Reference.{BlockReference, TransactionLocator, locator, TransactionLocatorRange, same_reference, within, offsets, covers}
use Rattle.record_spec.specs.Block.{author, is_share_at}
use Rattle.record_spec.proofs.Ranges.{within_yes, within_no, within_true}
use Rattle.record_spec.proofs.References.{reference_same, same_reference_lem}
use Rattle.store_spec.specs.Layout.{Record, Entry, blocks_at, reference_of, used_by, entries, position_of, lookup}
use Rattle.store_spec.specs.Shares.{is_stored_share}
use Rattle.store_spec.specs.Store.{records_of}
use Rattle.store_spec.proofs.Store.{entries_below, entries_within}
use Rattle.pending_spec.specs.Items.{Item, item_at, vote_over}
use Rattle.pending_spec.specs.Table.{items_of}
use Rattle.pending_spec.proofs.Items.{Ordered, held_at, unless, held_vote_over, held_after_vote, held_register}
use Rattle.pending_spec.proofs.Order.{Pending, pending_position}
use Rattle.feed_spec.specs.ProcessBlock.{Event, missed, event_at, event_of, Processing, vote, registering}
use Rattle.feed_spec.specs.Pending.{pending_checks, standing_of, standing_at, pending}
use Rattle.store_spec.proofs.Visit.{one_position}
use Rattle.feed_spec.proofs.Keeping.{State}
use Rattle.feed_spec.proofs.ProcessBlock.{lookup_new}

-- ---- positions

-- what is found by a reference is an entry of that reference
pub found_in : (es : List Entry) (r : BlockReference) (e : Entry) → lookup es r ≡ some e → e ∈ es
unfolding lookup
found_in es r e h = find_in (λ d. same_reference (reference_of d) r) es e h

pub found_called : (es : List Entry) (r : BlockReference) (e : Entry) → lookup es r ≡ some e → reference_of e ≡ r
unfolding lookup
found_called es r e h = reference_same (reference_of e) r (find_passes (λ d. same_reference (reference_of d) r) es e h)

-- where the block of a reference stands; zero where it is not stored
abbrev pub position_in : List Entry → BlockReference → ℕ
position_in es r = position_of (lookup es r)

-- of a stored block and any other reference: the positions are the same where the references are
pub same_position : (rs : List Record) (q r : BlockReference) (e : Entry) → lookup (entries rs) q ≡ some e → eqb (position_in (entries rs) q)
    (position_in (entries rs) r) ≡ same_reference r q
unfolding position_of
same_position rs q r e h =
    same_test _ _ (λ t. go (lookup (entries rs) r) refl (rw h at t))
    (λ t. let s : r ≡ q = reference_same r q t in rw s (eq-eqb (position_in (entries rs) q) (position_in (entries rs) q) refl))
  where
    go : (o : Option Entry) → lookup (entries rs) r ≡ o → eqb e.position (position_of o) ≡ true → same_reference r q ≡ true
    go none k t = absurd (omega (arith, eqb-true e.position 0 t, (every_in (entries rs) e (entries_within rs) (found_in (entries rs) q e h)).from))
    go (some d) k t =
        let one : e ≡ d = one_position rs e d (found_in (entries rs) q e h) (found_in (entries rs) r d k) (eqb-true e.position d.position t) in
        same_reference_lem (sym (found_called (entries rs) r d k) ∙ ap (λ (x : Entry). reference_of x) (sym one) ∙ found_called (entries rs) q e h)

-- ---- one vote

module _ (c : Committee) (rs : List Record) (l : TransactionLocator) (e : Entry) (stored : lookup (entries rs) l.block ≡ some e) (a : AuthorityIndex) where
  -- a range that covers the locator counts the vote there, and with quorum what stands there leaves; any other changes nothing there
  pub held_vote : (i : ℕ) (r : TransactionLocatorRange) (z : Processing) → Ordered z.items
      → held_at (vote c (entries rs) a i (some r) z).items (position_in (entries rs) l.block) l.offset
      ≡ pick (covers r l) (unless (has_quorum c) (Option.map (λ g. counted c g a) (held_at z.items (position_in (entries rs) l.block) l.offset)))
      (held_at z.items (position_in (entries rs) l.block) l.offset)
  unfolding vote covers
  held_vote i r z o =
      held_after_vote c (position_in (entries rs) r.block) r.start r.end a z.items o (position_in (entries rs) l.block) l.offset
      ∙ rw (same_position rs l.block r.block e stored)

  -- where a range covers the locator, its event is told by what stands there with the vote
  pub told_vote : (r : TransactionLocatorRange) (xs : List Item) → covers r l ≡ true
      → held_at (vote_over c a (position_in (entries rs) r.block) r.start r.end xs) (position_in (entries rs) r.block) l.offset
      ≡ Option.map (λ g. counted c g a) (held_at xs (position_in (entries rs) l.block) l.offset)
  unfolding covers
  told_vote r xs h =
      let same_block : r.block ≡ l.block = reference_same r.block l.block (and_left _ _ h) in
      let inside : within r.start r.end l.offset ≡ true = and_right (same_reference r.block l.block) _ h in
      let q : ℕ = position_in (entries rs) l.block in
      rw same_block (held_vote_over c a q r.start r.end xs q l.offset ∙ rw (eq-eqb q q refl, inside))

-- ---- the events of one vote

-- an event processed at the offset o, by a statement of which the test holds
abbrev pub processed_at : ℕ → (ℕ → Bool) → Event → Bool
processed_at o under v = eqb v.kind 1 && (eqb v.offset o && under v.statement)

-- 01: "an item that holds quorum after the vote leaves, each offset an event processed": the event by the votes that are held there
unfoldable pub processed_by : Committee → ℕ → ℕ → Option StakeAggregator → List Event
processed_by c i o none = []
processed_by c i o (some g) = pick (has_quorum c g) (record { kind = 1; statement = i; offset = o } ∷ []) []

either_way : {A : Type 0} (t : Bool) (x : A) → x ≡ pick t x x
either_way true x = refl
either_way false x = refl

-- the votes of an item, where there is one
abbrev votes_of : Option Item → Option StakeAggregator
votes_of x = Option.map (λ y. y.aggregator) x

module _ (c : Committee) (es : List Entry) (i o : ℕ) (under : ℕ → Bool) where
  -- the event of one offset
  processed_offset : (r : BlockReference) (n : ℕ) (x : Option Item) → keep (processed_at o under) (event_of c es r i n x) ≡ pick (eqb n o && under i)
      (processed_by c i n (votes_of x)) []
  unfolding keep event_at event_of missed processed_by
  processed_offset r n none = go (is_stored_share (blocks_at es) (locator r n))
    where
      go : (t : Bool) → keep (processed_at o under) (record { kind = pick t 2 3; statement = i; offset = n } ∷ []) ≡ pick (eqb n o && under i) [] []
      go true = either_way (eqb n o && under i) []
      go false = either_way (eqb n o && under i) []
  processed_offset r n (some x) = go (has_quorum c x.aggregator)
    where
      go : (t : Bool) → keep (processed_at o under) (pick t (record { kind = 1; statement = i; offset = n } ∷ []) []) ≡ pick (eqb n o && under i)
          (pick t (record { kind = 1; statement = i; offset = n } ∷ []) []) []
      go true = refl
      go false = either_way (eqb n o && under i) []

  -- of the offsets of a range only o itself has one
  processed_offsets : (r : BlockReference) (f : ℕ → Option Item) (s n : ℕ)
      → keep (processed_at o under) (flatten (map (λ k. event_of c es r i k (f k)) (count_from s n))) ≡ pick (under i && within s (s + n) o)
      (processed_by c i o (votes_of (f o))) []
  unfolding keep flatten count_from
  processed_offsets r f s zero = rw (within_no s (s + 0) o (λ u v. omega arith), and-false (under i))
  processed_offsets r f s (suc n) =
      keep_append (processed_at o under) (event_of c es r i s (f s)) (flatten (map (λ k. event_of c es r i k (f k)) (count_from (s + 1) n)))
      ∙ rw (processed_offset r s (f s), processed_offsets r f (s + 1) n) (go (ℕ_discrete s o) (under i))
    where
      by : ℕ → List Event
      by k = processed_by c i k (votes_of (f k))

      go : Dec (s ≡ o) → (t : Bool) → pick (eqb s o && t) (by s) [] ++ pick (t && within (s + 1) (s + 1 + n) o) (by o) [] ≡ pick (t && within s (s + suc n) o)
          (by o) []
      go d false = rw (and-false (eqb s o))
      go (yes e) true =
          rw (eq-eqb s o e, within_no (s + 1) (s + 1 + n) o (λ u v. omega arith), within_yes s (s + suc n) o (omega arith) (omega arith), e) (append-nil (by o))
      go (no e) true =
          let same : within (s + 1) (s + 1 + n) o ≡ within s (s + suc n) o = same_test _ _
          (λ h. let w = within_true (s + 1) (s + 1 + n) o h in within_yes s (s + suc n) o (omega (arith, w.0)) (omega (arith, w.1)))
          (λ h. let w = within_true s (s + suc n) o h in within_yes (s + 1) (s + 1 + n) o (omega (arith, w.0)) (omega (arith, w.1))) in
          rw (ne_eqb s o e, same)

-- a range's offsets are those within it
full_range : (s e o : ℕ) → within s (s + (e - s)) o ≡ within s e o
full_range s e o =
    same_test _ _
    (λ h. let w = within_true s (s + (e - s)) o h in within_yes s e o w.0 (omega (arith, w.0, w.1)))
    (λ h. let w = within_true s e o h in within_yes s (s + (e - s)) o w.0 (omega (arith, w.0, w.1)))

-- a range that covers the locator of a stored block gives an event processed there exactly where what stands there holds quorum with the vote;
-- any other gives none there. The test holds of the statement where its range is of that block.
pub processed_vote : (c : Committee) (rs : List Record) (l : TransactionLocator) (e : Entry) → lookup (entries rs) l.block ≡ some e → (a : AuthorityIndex)
    (i : ℕ) (under : ℕ → Bool)
    (r : TransactionLocatorRange) → under i ≡ same_reference r.block l.block → (z : Processing)
    → keep (processed_at l.offset under) (vote c (entries rs) a i (some r) z).events
    ≡ keep (processed_at l.offset under) z.events
    ++ pick (covers r l) (processed_by c i l.offset (Option.map (λ g. counted c g a) (held_at z.items (position_in (entries rs) l.block) l.offset))) []
unfolding vote offsets covers held_at
processed_vote c rs l e stored a i under r u z =
    keep_append test z.events (flatten (map (λ o. event_of c (entries rs) r.block i o (item_at after p o)) (offsets r)))
    ∙ ap (λ (vs : List Event). keep test z.events ++ vs)
    (processed_offsets c (entries rs) i l.offset under r.block (λ o. item_at after p o) r.start (r.end - r.start)
    ∙ rw (u, full_range r.start r.end l.offset) (go (covers r l) refl))
  where
    p : ℕ
    p = position_in (entries rs) r.block

    after : List Item
    after = vote_over c a p r.start r.end z.items

    test : Event → Bool
    test = processed_at l.offset under

    go : (t : Bool) → covers r l ≡ t
        → pick t (processed_by c i l.offset (held_at after p l.offset)) []
        ≡ pick t (processed_by c i l.offset (Option.map (λ g. counted c g a) (held_at z.items (position_in (entries rs) l.block) l.offset))) []
    go true h = rw (told_vote c rs l e stored a r z.items h)
    go false h = refl

-- ---- a block's shares

-- another block is found as before
pub found_still : (rs : List Record) (r : Record) (q : BlockReference) → same_reference r.block.reference q ≡ false → lookup (entries (r ∷ rs)) q ≡ lookup
    (entries rs) q
unfolding entries lookup find
found_still rs r q d = rw d

module _ (c : Committee) (rs : List Record) (r : Record) (xs : List Item) (h : Every (Pending c (entries rs)) xs) where
  new : Entry
  new = record { position = used_by rs; bytes = r.bytes; block = r.block }

  held_new : (p o : ℕ) → held_at (registering c (entries (r ∷ rs)) r.block xs).items p o ≡ pick (eqb (used_by rs) p && is_share_at r.block o)
      (some (counted c no_votes (author r.block))) (held_at xs p o)
  unfolding registering entries position_of new
  held_new p o =
      rw (lookup_new (entries rs) new)
      (held_register c (author r.block) (used_by rs) r.block xs (every (pending_position c (entries rs) new (entries_below rs)) xs h) p o)

  -- a share of the new block is held with its author's vote
  pub held_own : (l : TransactionLocator) → r.block.reference ≡ l.block → is_share_at r.block l.offset ≡ true
      → held_at (registering c (entries (r ∷ rs)) r.block xs).items (position_in (entries (r ∷ rs)) l.block) l.offset ≡ some
      (counted c no_votes (author r.block))
  unfolding entries position_of new
  held_own l e k =
      let here : position_in (entries (r ∷ rs)) l.block ≡ used_by rs = rw (← e, lookup_new (entries rs) new) in
      rw (here, held_new (used_by rs) l.offset, eq-eqb (used_by rs) (used_by rs) refl, k)

  -- what is held of another stored block stays
  pub held_other : (l : TransactionLocator) (e : Entry) → lookup (entries rs) l.block ≡ some e → same_reference r.block.reference l.block ≡ false
      → held_at (registering c (entries (r ∷ rs)) r.block xs).items (position_in (entries (r ∷ rs)) l.block) l.offset ≡ held_at xs
      (position_in (entries rs) l.block) l.offset
  unfolding position_of
  held_other l e k d =
      let below : e.position < used_by rs = every_in (entries rs) e (entries_below rs) (found_in (entries rs) l.block e k) in
      rw (found_still rs r l.block d, k, held_new e.position l.offset, ne_eqb (used_by rs) e.position (λ n. omega arith))

-- ---- the pending question

-- 01: "Asking for a pending locator gives its stake and its number of voters": of the votes that are held there
pub standing_held : (xs : List Item) (p o : ℕ) (g : StakeAggregator) → held_at xs p o ≡ some g → standing_of (item_at xs p o) ≡ answered
    (record { stake = g.stake; voters = number_of_voters g.votes })
unfolding held_at standing_of
standing_held xs p o g h = go (item_at xs p o) h
  where
    go : (x : Option Item) → Option.map (λ y. y.aggregator) x ≡ some g → standing_of x ≡ answered
        (record { stake = g.stake; voters = number_of_voters g.votes })
    go none k = absurd (none-ne-some g k)
    go (some x) k = let e : x.aggregator ≡ g = some-injective _ _ k in rw e

-- "or 42": where none are
pub standing_none : (xs : List Item) (p o : ℕ) → held_at xs p o ≡ none → standing_of (item_at xs p o) ≡ refused 42
unfolding held_at standing_of
standing_none xs p o h = go (item_at xs p o) h
  where
    go : (x : Option Item) → Option.map (λ y. y.aggregator) x ≡ none → standing_of x ≡ refused 42
    go none k = refl
    go (some x) k = absurd (none-ne-some x.aggregator (sym k))

-- under a committee that is not broken, a store and a table in order are refused nothing else
pub pending_passes : (c : Committee) (s : Bytes) (t : List ℕ) (l : TransactionLocator) → broken c ≡ false → State c s t
    → pending c s t l ≡ standing_of (item_at (items_of t) (position_in (entries (records_of s)) l.block) l.offset)
unfolding pending standing_at pending_checks passes all_of
pending_passes c s t l b h = rw (b, h.store, h.table)
