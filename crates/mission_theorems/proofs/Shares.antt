-- The part of the third statement about stored shares: each stands as its counted votes say. Assumes nothing.
use mathlib.Core.Path.{◌≡◌, refl, sym, ap, ◌∙◌, subst}
use mathlib.Core.Logic.{◌⊎◌, inl, inr}
use mathlib.Core.Bool.{Bool, true, false, ◌&&◌, ◌||◌}
use mathlib.Core.List.{List, [], ◌∷◌, ◌++◌, map, append-nil}
use mathlib.Core.Option.{some}
use Prim.Native.Nat.{ℕ, ◌+◌}
use native.Mathlib.Omega.{arith}
use lib.ListN.{length}
use Rattle.base.specs.Lists.{pick, any_of, find}
use Rattle.base.specs.Le.{Bytes}
use Rattle.base.specs.Checks.{passes}
use Rattle.base.proofs.Tests.{not_both, fails, and_left, and_right, or_cases, holds_or_not}
use Rattle.base.proofs.Lists.{Every}
use Rattle.base.proofs.Members.{in_any, in_map, map_in}
use Rattle.committee.specs.Committee.{Committee, broken}
use Rattle.committee_set.specs.AuthoritySet.{number_of_voters}
use Rattle.committee_aggregator.specs.StakeAggregator.{no_votes, counted}
use Rattle.committee_aggregator.proofs.Tallies.{Counting, counts_first}
use Rattle.record_spec.specs.Reference.{TransactionLocator, same_reference}
use Rattle.record_spec.specs.Block.{Block, author, is_share_at}
use Rattle.record_spec.proofs.References.{reference_same, same_reference_lem}
use Rattle.store_spec.specs.Layout.{Record, read_record, Entry, used_by, entries, lookup}
use Rattle.store_spec.specs.Accept.{is_stored}
use Rattle.store_spec.specs.Shares.{is_share_of, is_stored_share, StoredShare}
use Rattle.store_spec.specs.Store.{records_of}
use Rattle.store_spec.proofs.Accepted.{known_author, accepted_new}
use Rattle.store_spec.proofs.Shares.{stored_share}
use Rattle.store_spec.proofs.Store.{read_record_some, Holding, accepting}
use Rattle.pending_spec.specs.Items.{Item, item_at}
use Rattle.pending_spec.specs.Table.{items_of}
use Rattle.pending_spec.proofs.Items.{held_at}
use Rattle.pending_spec.proofs.Order.{Pending, in_order_lem}
use Rattle.pending_spec.proofs.Table.{items_of_table_of}
use Rattle.feed_spec.specs.ProcessBlock.{Processing, registering, process_block}
use Rattle.feed_spec.specs.Feed.{Lent, processed, feed_checks, refused_feed, accepted_feed, feed_record, feed}
use Rattle.feed_spec.specs.Pending.{standing_of, pending}
use Rattle.feed_spec.proofs.Keeping.{State, Kept, Passed, passed, feed_keeps, sound_registering, lent_state}
use Rattle.feed_spec.proofs.ProcessBlock.{lookup_new}
use Rattle.feed_spec.proofs.View.{position_in, held_own, held_other, found_still, standing_held, standing_none, pending_passes}
use Rattle.mission_theorems.specs.Feeds.{Feed, Engine, fresh, outcome, left, run, Accepted, accepted_in, accepted, stored_blocks}
use Rattle.mission_theorems.specs.Shares.{votes_from, counted_votes, counted_voters, announced_by, announcements}
use Rattle.mission_theorems.specs.ThirdStatement.{ShareStands, stays, gone, Start, engine_of, accepted_of}
use Rattle.mission_theorems.proofs.Feeds.{taken, feed_cases}
use Rattle.mission_theorems.proofs.Storing.{as_record, StoreOf, fresh_holds, run_holds}
use Rattle.mission_theorems.proofs.Announced.{Quiet, quiet_run}
use Rattle.mission_theorems.proofs.Standing as machine
use Rattle.mission_theorems.proofs.Standing.{Stands, none_left_first, tallied}
use Rattle.mission_theorems.proofs.Statements.{stands_statements}

-- ---- stored shares

-- the block of a stored share is found
stored_found : (as' : List Accepted) (l : TransactionLocator) → is_stored_share (stored_blocks as') l ≡ true → (e : Entry) ×
    (lookup (entries (map as_record as')) l.block ≡ some e)
unfolding is_stored_share is_share_of stored_blocks any_of entries lookup find
stored_found [] l h = absurd (not_both h refl)
stored_found (a ∷ as') l h = go (same_reference a.block.reference l.block) h (stored_found as' l)
  where
    first : Entry
    first = record { position = used_by (map as_record as'); bytes = a.bytes; block = a.block }

    go : (t : Bool) → (t && is_share_at a.block l.offset) || is_stored_share (stored_blocks as') l ≡ true
        → (is_stored_share (stored_blocks as') l ≡ true → (e : Entry) × (lookup (entries (map as_record as')) l.block ≡ some e))
        → (e : Entry) × (pick t (some first) (lookup (entries (map as_record as')) l.block) ≡ some e)
    go true k ih = (first, refl)
    go false k ih = ih k

-- a new block's share was not stored before it
not_before : (as' : List Accepted) (b : Block) (l : TransactionLocator) → is_stored (map as_record as') b.reference ≡ false → b.reference ≡ l.block →
    is_stored_share (stored_blocks as') l ≡ false
unfolding is_stored stored_blocks
not_before as' b l new e =
    fails (is_stored_share (stored_blocks as') l) (λ h.
    let x : StoredShare (stored_blocks as') l = stored_share (stored_blocks as') l h in
    let a = map_in (λ (d : Accepted). d.block) as' x.stored in
    not_both (in_any (λ r. same_reference r.block.reference b.reference) (in_map as_record a.1)
    (same_reference_lem (ap (λ (d : Block). d.reference) a.2 ∙ x.named ∙ sym e))) new)

-- what is no stored share has no counted votes
none_counted : (as' : List Accepted) (l : TransactionLocator) → is_stored_share (stored_blocks as') l ≡ false → counted_votes as' l ≡ []
unfolding counted_votes
none_counted [] l h = refl
none_counted (a ∷ as') l h = rw h

-- ---- a share, feed by feed

module _ (c : Committee) (l : TransactionLocator) where
  -- store and table are in order, and the share stands as its counted votes say
  record Follows (s : Bytes) (t : List ℕ) (as' : List Accepted) : Type 0 where
    state : State c s t
    stands : Stands c l (counted_votes as' l) (held_at (items_of t) (position_in (entries (records_of s)) l.block) l.offset) (announcements as' l)

  -- the same of the block being fed, once its shares are registered
  record Registered (rs : List Record) (z : Processing) (as' : List Accepted) : Type 0 where
    entry : Entry
    found : lookup (entries rs) l.block ≡ some entry
    stands : Stands c l (counted_votes as' l) (held_at z.items (position_in (entries rs) l.block) l.offset) (announcements as' l)

  share_registered : (m : Lent) (r : Record) (as' : List Accepted) → passes (feed_checks c m (some r)) ≡ true → StoreOf c m.store as' → Quiet c l as'
      → (is_stored_share (stored_blocks as') l ≡ true → Follows m.store m.table as')
      → is_stored_share (stored_blocks (taken c m r ∷ as')) l ≡ true
      → Registered (r ∷ records_of m.store) (registering c (entries (r ∷ records_of m.store)) r.block (items_of m.table)) as'
  share_registered m r as' p h q ih stored = split (holds_or_not (same_reference r.block.reference l.block))
    where
      rs : List Record
      rs = records_of m.store

      xs : List Item
      xs = items_of m.table

      items : Every (Pending c (entries rs)) xs
      items = (in_order_lem c (entries rs) m.table (lent_state c m r p).table).items

      new : is_stored (map as_record as') r.block.reference ≡ false
      new = subst (λ (ys : List Record). is_stored ys r.block.reference ≡ false) h.records (accepted_new c rs r.block (passed c m r p).block)

      parts : (is_share_of r.block l ≡ true) ⊎ (is_stored_share (stored_blocks as') l ≡ true)
      parts = unfold is_stored_share stored_blocks any_of in or_cases _ _ stored

      split : (same_reference r.block.reference l.block ≡ true) ⊎ (same_reference r.block.reference l.block ≡ false)
          → Registered (r ∷ rs) (registering c (entries (r ∷ rs)) r.block xs) as'
      split (inl e) =
          record {
            entry = own;
            found = unfold entries in rw (← same) (lookup_new (entries rs) own);
            stands = rw (none_counted as' l before)
                (machine.stays (counted c no_votes (author r.block)) (held_own c rs r xs items l same (share parts)) (q before) counts (none_left_first c l));
          }
        where
          own : Entry
          own = record { position = used_by rs; bytes = r.bytes; block = r.block }

          same : r.block.reference ≡ l.block
          same = reference_same r.block.reference l.block e

          before : is_stored_share (stored_blocks as') l ≡ false
          before = not_before as' r.block l new same

          share : (is_share_of r.block l ≡ true) ⊎ (is_stored_share (stored_blocks as') l ≡ true) → is_share_at r.block l.offset ≡ true
          share (inl k) = unfold is_share_of in and_right (same_reference r.block.reference l.block) _ k
          share (inr k) = absurd (not_both k before)

          counts : Counting c (counted_voters l []) (counted c no_votes (author r.block))
          counts = unfold counted_voters in rw (← same) (counts_first c (author r.block) (known_author c rs r.block (passed c m r p).block))
      split (inr e) =
          record {
            entry = there.0;
            found = found_still rs r l.block e ∙ there.1;
            stands = rw (held_other c rs r xs items l there.0 there.1 e)
                (ih (was parts)).stands;
          }
        where
          was : (is_share_of r.block l ≡ true) ⊎ (is_stored_share (stored_blocks as') l ≡ true) → is_stored_share (stored_blocks as') l ≡ true
          was (inl k) = unfold is_share_of in absurd (not_both (and_left (same_reference r.block.reference l.block) _ k) e)
          was (inr k) = k

          there : (d : Entry) × (lookup (entries rs) l.block ≡ some d)
          there = subst (λ (ys : List Record). (d : Entry) × (lookup (entries ys) l.block ≡ some d)) (sym h.records) (stored_found as' l (was parts))

  -- one feed: an accepted record's votes are counted, a refused one changes nothing
  share_feed : (m : Lent) (bytes : Bytes) (as' : List Accepted) → StoreOf c m.store as' → Quiet c l as' →
      (is_stored_share (stored_blocks as') l ≡ true → Follows m.store m.table as')
      → is_stored_share (stored_blocks (accepted_in (read_record bytes) (feed c m bytes).answer (feed c m bytes).events ++ as')) l ≡ true
      → Follows (feed c m bytes).store (feed c m bytes).table (accepted_in (read_record bytes) (feed c m bytes).answer (feed c m bytes).events ++ as')
  unfolding refused_feed accepted_feed counted_votes announcements
  share_feed m bytes as' h q ih = feed_cases c m bytes (λ o as''. is_stored_share (stored_blocks (as'' ++ as')) l ≡ true → Follows o.store o.table
      (as'' ++ as')) (λ n. ih) after
    where
      rs : List Record
      rs = records_of m.store

      voted : (r : Record) → passes (feed_checks c m (some r)) ≡ true → is_stored_share (stored_blocks (taken c m r ∷ as')) l ≡ true
          → Stands c l (counted_votes as' l ++ votes_from (length as') (author r.block) 0 r.block.statements l)
          (held_at (processed c m r).items (position_in (entries (r ∷ rs)) l.block) l.offset)
          (announcements as' l ++ announced_by (length as') r.block (processed c m r).events l)
      voted r p stored =
          let z : Processing = registering c (entries (r ∷ rs)) r.block (items_of m.table) in
          let ok : Passed c m r = passed c m r p in
          let g : Registered (r ∷ rs) z as' = share_registered m r as' p h q ih stored in
          unfold processed process_block in
          stands_statements c (r ∷ rs) l g.entry g.found (length as') r.block (author r.block) (known_author c rs r.block ok.block)
          (counted_votes as' l)
          (announcements as' l) 0 r.block.statements (λ j. let n : 0 + j ≡ j = omega arith in rw n) z (sound_registering c m r (lent_state c m r p) ok)
          (unfold registering announced_by in rw (append-nil (announcements as' l)) g.stands)

      after : (r : Record) → read_record bytes ≡ some r → passes (feed_checks c m (some r)) ≡ true → is_stored_share (stored_blocks (taken c m r ∷ as')) l
          ≡ true
          → Follows (accepted_feed c m r).store (accepted_feed c m r).table (taken c m r ∷ as')
      after r e p stored =
          let was : State c m.store m.table = lent_state c m r p in
          let ok : Passed c m r = passed c m r p in
          let held : Holding c (r ∷ rs) m.store = accepting c m.store r was.store (read_record_some bytes r e) ok.block ok.stored in
          let kept : Kept c m (accepted_feed c m r) = unfold feed feed_record in rw (e, p) at (feed_keeps c m bytes was) in
          record { state = kept.state; stands = rw (stored, items_of_table_of (length m.table) (processed c m r).items, held.records) (voted r p stored) }

  -- a list of feeds
  share_run : (g : Engine) (fs : List Feed) → StoreOf c g.store [] → is_stored_share (stored_blocks (accepted c g fs)) l ≡ true → Follows (run c g fs).store
      (run c g fs).table (accepted c g fs)
  unfolding run accepted outcome left is_stored_share stored_blocks any_of
  share_run g [] h stored = absurd (not_both stored refl)
  share_run g (f ∷ fs) h stored =
      share_feed (record { store = (run c g fs).store; table = (run c g fs).table; work = f.work; events = f.events }) f.bytes (accepted c g fs)
      (run_holds c g fs h) (quiet_run c l g fs h) (share_run g fs h) stored

-- "A stored share is pending, with the stake and number of its counted voters, exactly when ..; else the first that did, and no other, announced it"
pub share_stands : (c : Committee) → broken c ≡ false → (t : Start) (l : TransactionLocator) → is_stored_share (stored_blocks (accepted_of c t)) l ≡ true →
    ShareStands c (engine_of c t) (accepted_of c t) l
unfolding engine_of accepted_of fresh
share_stands c b t l stored = go f.stands
  where
    g : Engine
    g = engine_of c t

    as' : List Accepted
    as' = accepted_of c t

    f : Follows c l g.store g.table as'
    f = share_run c l (fresh t.past t.words) t.feeds (fresh_holds c t.past t.allowed) stored

    xs : List Item
    xs = items_of g.table

    p : ℕ
    p = position_in (entries (records_of g.store)) l.block

    asked : pending c g.store g.table l ≡ standing_of (item_at xs p l.offset)
    asked = pending_passes c g.store g.table l b f.state

    go : Stands c l (counted_votes as' l) (held_at xs p l.offset) (announcements as' l) → ShareStands c g as' l
    go (machine.stays v e quiet n none_left) =
        stays (record { stake = v.stake; voters = number_of_voters v.votes }) none_left (tallied c (counted_voters l (counted_votes as' l)) v b n)
        (asked ∙ standing_held xs p l.offset v e) quiet
    go (machine.gone e earlier v later whole none_left quorum told) =
        gone earlier v later whole none_left quorum (asked ∙ standing_none xs p l.offset e) told
