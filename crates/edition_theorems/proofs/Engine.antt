-- What an engine counts from fresh is what its accepted blocks say, so times and editions do not matter to it. Assumes nothing.
use mathlib.Core.Path.{◌≡◌, refl, sym, ap, ◌∙◌}
use mathlib.Core.Bool.{true}
use mathlib.Core.List.{List, [], ◌∷◌, ◌++◌, map, map-append}
use mathlib.Core.Option.{some}
use Prim.Native.Nat.{ℕ, zero, suc, ◌+◌, ◌≤◌}
use native.Mathlib.Omega.{arith}
use lib.ListN.{length, replicate, length-append}
use Rattle.base.specs.Le.{Bytes}
use Rattle.base.specs.Checks.{passes}
use Rattle.base.specs.Read.{give, repeated}
use Rattle.committee.specs.Committee.{Committee}
use Rattle.record_spec.specs.Block.{Block}
use Rattle.record_spec.specs.Record.{block_of, block_in}
use Rattle.record_spec.proofs.Records.{block_in_lem}
use Rattle.store_spec.specs.Layout.{blocks, Record, read_record}
use Rattle.store_spec.specs.Store.{records_of}
use Rattle.store_spec.proofs.Store.{read_record_some, read_record_bytes, right_block}
use Rattle.pending_spec.specs.Table.{items_read, items_of}
use Rattle.pending_spec.proofs.Table.{items_of_table_of}
use Rattle.feed_spec.specs.ProcessBlock.{Event, Processing}
use Rattle.feed_spec.specs.Feed.{Lent, processed, feed_checks, refused_feed, accepted_feed, feed}
use Rattle.final_spec.specs.Voters.{is_final}
use Rattle.final_spec.specs.NextFinal.{next_final, final_list}
use Rattle.final_spec.specs.Finality.{blocks_of}
use Rattle.final_spec.proofs.Asked.{asked_on, asked_once}
use Rattle.list_ordinary_spec.specs.FinalShares.{next_final_share, final_shares}
use Rattle.list_ordinary_spec.proofs.Asked.{shares_asked}
use Rattle.mission_theorems.specs.Feeds.{Feed, Engine, fresh, outcome, left, run, Accepted, accepted_in, accepted, stored_blocks}
use Rattle.mission_theorems.specs.ThirdStatement.{Start, engine_of, accepted_of}
use Rattle.mission_theorems.proofs.Feeds.{taken, feed_cases}
use Rattle.mission_theorems.proofs.Storing.{as_record, StoreOf, fresh_holds, run_holds}
use Rattle.mission_theorems.proofs.Finals.{blocks_are, store_of}
use Rattle.edition_theorems.specs.Claims.{blocks_said, TimesApart, events_told, SameCounts}
use Rattle.edition_theorems.proofs.Events.{counting, events_of_each, events_ignore}

-- the table has the items that were counted, and the events told are those
record Counts (c : Committee) (t : List ℕ) (as' : List Accepted) : Type 0 where
  items : items_of t ≡ (counting c (map as_record as')).items
  events : events_told as' ≡ events_of_each c (map as_record as')

zero_items : (n : ℕ) → items_of (replicate n 0) ≡ []
unfolding items_of items_read repeated give
zero_items zero = refl
zero_items (suc n) = refl

counts_fresh : (c : Committee) (n : ℕ) → Counts c (replicate n 0) []
unfolding counting events_of_each events_told
counts_fresh c n = record { items = zero_items n; events = refl }

counts_more : (c : Committee) (m : Lent) (r : Record) (as' : List Accepted) → records_of m.store ≡ map as_record as' → Counts c m.table as'
    → processed c m r ≡ counting c (r ∷ map as_record as')
unfolding processed counting
counts_more c m r as' h k = rw (h, k.items)

counts_feed : (c : Committee) (m : Lent) (bytes : Bytes) (as' : List Accepted) → StoreOf c m.store as' → Counts c m.table as'
    → Counts c (feed c m bytes).table (accepted_in (read_record bytes) (feed c m bytes).answer (feed c m bytes).events ++ as')
unfolding refused_feed accepted_feed events_told events_of_each
counts_feed c m bytes as' h k = feed_cases c m bytes (λ o as''. Counts c o.table (as'' ++ as')) (λ n. k) more
  where
    more : (r : Record) → read_record bytes ≡ some r → passes (feed_checks c m (some r)) ≡ true → Counts c (accepted_feed c m r).table (taken c m r ∷ as')
    more r e p =
        let z : processed c m r ≡ counting c (r ∷ map as_record as') = counts_more c m r as' h.records k in
        record {
          items = items_of_table_of (length m.table) (processed c m r).items ∙ ap (λ (w : Processing). w.items) z;
          events = ap {B = List (List Event)} (λ vs. (processed c m r).events ∷ vs) k.events ∙ ap {B = List (List Event)}
              (λ (w : Processing). w.events ∷ events_of_each c (map as_record as')) z;
        }

counts_run : (c : Committee) (g : Engine) (fs : List Feed) → StoreOf c g.store [] → Counts c g.table [] → Counts c (run c g fs).table (accepted c g fs)
unfolding run accepted outcome left
counts_run c g [] h k = k
counts_run c g (f ∷ fs) h k =
    counts_feed c (record { store = (run c g fs).store; table = (run c g fs).table; work = f.work; events = f.events }) f.bytes (accepted c g fs)
    (run_holds c g fs h) (counts_run c g fs h k)

-- the events told from fresh are those of the accepted records
events_counted : (c : Committee) (t : Start) → events_told (accepted_of c t) ≡ events_of_each c (map as_record (accepted_of c t))
unfolding accepted_of fresh
events_counted c t =
    (counts_run c (fresh t.past t.words) t.feeds (fresh_holds c t.past t.allowed) (counts_fresh c t.words)).events

blocks_in : (as' : List Accepted) → blocks (map as_record as') ≡ stored_blocks as'
unfolding stored_blocks
blocks_in [] = refl
blocks_in (a ∷ as') = ap {B = List Block} (λ bs. a.block ∷ bs) (blocks_in as')

-- ---- each record accepted

-- at most one record is accepted of a feed, and it is the one that was fed
record OneOf (bytes : Bytes) (as' : List Accepted) : Type 0 where
  most : length as' ≤ 1
  only : length as' ≡ 1 → stored_blocks as' ≡ block_in bytes ∷ []

one_fed : (c : Committee) (m : Lent) (bytes : Bytes) → OneOf bytes (accepted_in (read_record bytes) (feed c m bytes).answer (feed c m bytes).events)
unfolding stored_blocks
one_fed c m bytes = feed_cases c m bytes (λ o as''. OneOf bytes as'') (λ n. record { most = omega arith; only = λ (h : 0 ≡ 1). absurd (omega arith) }) took
  where
    took : (r : Record) → read_record bytes ≡ some r → passes (feed_checks c m (some r)) ≡ true → OneOf bytes (taken c m r ∷ [])
    took r e p =
        let said : block_of bytes ≡ some r.block = rw (read_record_bytes bytes r e) at (right_block r (read_record_some bytes r e)) in
        record { most = omega arith; only = λ h. rw (block_in_lem bytes r.block said) }

accepted_most : (c : Committee) (g : Engine) (fs : List Feed) → length (accepted c g fs) ≤ length fs
unfolding accepted outcome
accepted_most c g [] = omega arith
accepted_most c g (f ∷ fs) =
    let m : Lent = record { store = (run c g fs).store; table = (run c g fs).table; work = f.work; events = f.events } in
    let one : List Accepted = accepted_in (read_record f.bytes) (feed c m f.bytes).answer (feed c m f.bytes).events in
    omega (arith, (one_fed c m f.bytes).most, accepted_most c g fs, length-append one (accepted c g fs))

-- where as many were accepted as were fed, the stored blocks are those that the records say
accepted_all : (c : Committee) (g : Engine) (fs : List Feed) → length (accepted c g fs) ≡ length fs → stored_blocks (accepted c g fs) ≡ blocks_said fs
unfolding accepted outcome blocks_said stored_blocks
accepted_all c g [] h = refl
accepted_all c g (f ∷ fs) h =
    let m : Lent = record { store = (run c g fs).store; table = (run c g fs).table; work = f.work; events = f.events } in
    let one : List Accepted = accepted_in (read_record f.bytes) (feed c m f.bytes).answer (feed c m f.bytes).events in
    let o : OneOf f.bytes one = one_fed c m f.bytes in
    let all : length one + length (accepted c g fs) ≡ suc (length fs) = sym (length-append one (accepted c g fs)) ∙ h in
    let few : length (accepted c g fs) ≤ length fs = accepted_most c g fs in
    map-append (λ (a : Accepted). a.block) one (accepted c g fs)
    ∙ rw (o.only (omega (arith, o.most, all, few)), accepted_all c g fs (omega (arith, o.most, all, few)))

same_stored : (c : Committee) (t u : Start) → TimesApart c t u → stored_blocks (accepted_of c t) ≡ stored_blocks (accepted_of c u)
unfolding accepted_of
same_stored c t u h =
    accepted_all c (fresh t.past t.words) t.feeds h.first
    ∙ h.blocks
    ∙ sym (accepted_all c (fresh u.past u.words) u.feeds h.second)

same_events : (c : Committee) (t u : Start) → stored_blocks (accepted_of c t) ≡ stored_blocks (accepted_of c u) → events_told (accepted_of c t) ≡ events_told
    (accepted_of c u)
same_events c t u h =
    events_counted c t
    ∙ events_ignore c (map as_record (accepted_of c t)) (map as_record (accepted_of c u)) (blocks_in (accepted_of c t) ∙ h ∙ sym (blocks_in (accepted_of c u)))
    ∙ sym (events_counted c u)

pub same_counts : (c : Committee) (t u : Start) → TimesApart c t u → SameCounts c t u
same_counts c t u apart =
    let h : stored_blocks (accepted_of c t) ≡ stored_blocks (accepted_of c u) = same_stored c t u apart in
    let s : Bytes = (engine_of c t).store in
    let r : Bytes = (engine_of c u).store in
    let e : blocks_of s ≡ blocks_of r = blocks_are c s (accepted_of c t) (store_of c t) ∙ h ∙ sym (blocks_are c r (accepted_of c u) (store_of c u)) in
    record {
      events = same_events c t u h;
      blocks = e;
      final = λ l. ap (λ (bs : List Block). is_final c bs l) e;
      list = λ b ls ms x y. asked_once (next_final c s) x (asked_on c s b (store_of c t).order) ∙ ap (final_list c) e ∙ asked_once (next_final c r)
          (asked_on c r b (store_of c u).order) y;
      shares = λ b ls ms x y. asked_once (next_final_share c s) x (shares_asked c s b (store_of c t).order) ∙ ap (final_shares c) e ∙ asked_once
          (next_final_share c r) (shares_asked c r b (store_of c u).order) y;
    }
