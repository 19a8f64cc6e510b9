-- One feed leaves the store and the table in order and every slice as long as it was, accepted or refused. Assumes nothing.
use mathlib.Core.Path.{◌≡◌, refl}
use mathlib.Core.List.{List, [], ◌∷◌, flatten}
use mathlib.Core.Option.{Option, none, some}
use mathlib.Core.Bool.{Bool, true, false}
use Prim.Native.Nat.{ℕ, zero, suc, ◌+◌, ◌-◌, ◌*◌, ◌≤◌}
use native.Mathlib.Omega.{arith}
use lib.ListN.{length, replicate, length-append, length-drop}
use borrow.Author.Tests.{ltb-false, not-false}
use Rattle.base.specs.Lists.{pick}
use Rattle.base.specs.Le.{Bytes}
use Rattle.base.specs.Checks.{refusal, passes}
use Rattle.base.proofs.Lists.{none_of, no_pairs}
use Rattle.base.proofs.Checks.{passes_first, passes_others, passes_left, passes_right}
use Rattle.committee.specs.Committee.{Committee}
use Rattle.record_spec.specs.Block.{event_room}
use Rattle.store_spec.specs.Layout.{Record, Entry, read_record, used_by, entries}
use Rattle.store_spec.specs.Accept.{block_checks}
use Rattle.store_spec.specs.Store.{records_of, store_in_order, store_full}
use Rattle.store_spec.proofs.Accepted.{known_author}
use Rattle.store_spec.proofs.Store.{Right, read_record_some, Holding, accepting, entries_below}
use Rattle.pending_spec.specs.Table.{table_of, items_of, table_in_order, room}
use Rattle.pending_spec.proofs.Table.{length_table_of}
use Rattle.pending_spec.proofs.Order.{InOrder, in_order_lem, order_table_of, room_fits}
use Rattle.feed_spec.specs.ProcessBlock.{words_of, registering}
use Rattle.feed_spec.specs.Pending.{pending_checks}
use Rattle.feed_spec.specs.Feed.{Lent, Fed, processed, lent_checks, rule_checks, accept_checks, record_checks, feed_checks, refused_feed, accepted_feed}
use Rattle.feed_spec.specs.Feed.{feed_record, feed}
use Rattle.feed_spec.proofs.ProcessBlock.{Sound, sound_registered, sound_process_block, events_process_block, length_words}

-- what passing the checks of a record but 14 says
pub record Passed (c : Committee) (m : Lent) (r : Record) : Type 0 where
  pub block : passes (block_checks c (records_of m.store) r.block) ≡ true
  pub events : event_room r.block ≤ length m.events
  pub stored : store_full m.store r ≡ false

pub acceptable : (c : Committee) (m : Lent) (r : Record) → passes (accept_checks c m.store (length m.events) (some r)) ≡ true → Passed c m r
unfolding accept_checks rule_checks
acceptable c m r h =
    let h₁ = passes_right (block_checks c (records_of m.store) r.block) _ h in
    record {
      block = passes_left (block_checks c (records_of m.store) r.block) _ h;
      events = ltb-false _ _ (passes_first _ _ h₁);
      stored = passes_first _ _ (passes_others _ _ h₁);
    }

module _ (c : Committee) (m : Lent) (r : Record) (h : passes (feed_checks c m (some r)) ≡ true) where
  pub passed : Passed c m r
  unfolding feed_checks record_checks
  passed = acceptable c m r (passes_left (accept_checks c m.store (length m.events) (some r)) _ (passes_right (lent_checks c m) _ h))

  -- and what passing 14 says
  pub items_fit : (processed c m r).most ≤ room m.table
  unfolding feed_checks record_checks
  items_fit =
      ltb-false _ _ (passes_first _ _ (passes_right (accept_checks c m.store (length m.events) (some r)) _ (passes_right (lent_checks c m) _ h)))

-- a store and a table in order
pub record State (c : Committee) (s : Bytes) (t : List ℕ) : Type 0 where
  pub store : store_in_order c s ≡ true
  pub table : table_in_order c (entries (records_of s)) t ≡ true

-- what a feed keeps
pub record Kept (c : Committee) (m : Lent) (f : Fed) : Type 0 where
  pub state : State c f.store f.table
  pub store : length f.store ≡ length m.store
  pub table : length f.table ≡ length m.table
  pub events : length f.events ≡ length m.events

-- once the record is stored, the items are in order
sound_processed : (c : Committee) (m : Lent) (r : Record) → State c m.store m.table → Passed c m r
    → Sound c (entries (r ∷ records_of m.store)) (processed c m r)
unfolding processed entries
sound_processed c m r h a =
    let rs : List Record = records_of m.store in
    let t : InOrder c (entries rs) m.table = in_order_lem c (entries rs) m.table h.table in
    sound_process_block c (entries rs) (record { position = used_by rs; bytes = r.bytes; block = r.block }) (entries_below rs)
    (known_author c rs r.block a.block) (items_of m.table) t.ordered t.items

-- and so they are once its shares are registered
pub sound_registering : (c : Committee) (m : Lent) (r : Record) → State c m.store m.table → Passed c m r
    → Sound c (entries (r ∷ records_of m.store)) (registering c (entries (r ∷ records_of m.store)) r.block (items_of m.table))
unfolding entries
sound_registering c m r h a =
    let rs : List Record = records_of m.store in
    let t : InOrder c (entries rs) m.table = in_order_lem c (entries rs) m.table h.table in
    sound_registered c (entries rs) (record { position = used_by rs; bytes = r.bytes; block = r.block }) (entries_below rs)
    (known_author c rs r.block a.block) (items_of m.table) t.ordered t.items

-- passing the checks says that store and table were in order
pub lent_state : (c : Committee) (m : Lent) (r : Record) → passes (feed_checks c m (some r)) ≡ true → State c m.store m.table
unfolding feed_checks lent_checks pending_checks
lent_state c m r p =
    let h = passes_left (lent_checks c m) (record_checks c m (some r)) p in
    let h₁ = passes_others _ _ h in
    record {
      store = not-false (store_in_order c m.store) (passes_first _ _ h₁);
      table = not-false (table_in_order c (entries (records_of m.store)) m.table) (passes_first _ _ (passes_others _ _ h₁));
    }

kept_accepted : (c : Committee) (m : Lent) (r : Record) → State c m.store m.table → Right r → passes (feed_checks c m (some r)) ≡ true
    → Kept c m (accepted_feed c m r)
unfolding accepted_feed
kept_accepted c m r h q p =
    record {
      state = record {
        store = held.order;
        table = rw held.records
            (order_table_of c (entries (r ∷ rs)) (length m.table) (processed c m r).items fits z.ordered z.pending);
      };
      store = held.size;
      table = length_table_of (length m.table) (processed c m r).items fits;
      events = simp (length-append, length-drop) (omega (arith, enough));
    }
  where
    rs : List Record
    rs = records_of m.store

    a : Passed c m r
    a = passed c m r p

    held : Holding c (r ∷ rs) m.store
    held = accepting c m.store r h.store q a.block a.stored

    z : Sound c (entries (r ∷ rs)) (processed c m r)
    z = sound_processed c m r h a

    fits : 1 + 6 * length (processed c m r).items ≤ length m.table
    fits =
        room_fits c (entries rs) m.table (length (processed c m r).items)
        (in_order_lem c (entries rs) m.table h.table) (omega (arith, z.few, items_fit c m r p))

    enough : length (words_of (processed c m r).events) ≤ length m.events
    enough = unfold processed in omega (
      arith,
      length_words (processed c m r).events,
      events_process_block c (entries (r ∷ rs)) r.block
          (items_of m.table),
      a.events,
    )

-- one feed, accepted or refused, leaves store and table in order, and every slice as long as it was
pub feed_keeps : (c : Committee) (m : Lent) (bytes : Bytes) → State c m.store m.table → Kept c m (feed c m bytes)
unfolding feed feed_record refused_feed
feed_keeps c m bytes h = go (read_record bytes) refl
  where
    refused_keeps : (n : ℕ) → Kept c m (refused_feed m n)
    refused_keeps n = record { state = h; store = refl; table = refl; events = refl }

    go : (o : Option Record) → read_record bytes ≡ o → Kept c m (feed_record c m o)
    go none e = refused_keeps _
    go (some r) e = by_checks (passes (feed_checks c m (some r))) refl
      where
        by_checks : (t : Bool) → passes (feed_checks c m (some r)) ≡ t → Kept c m
            (pick t (accepted_feed c m r) (refused_feed m (refusal (feed_checks c m (some r)))))
        by_checks true p = kept_accepted c m r h (read_record_some bytes r e) p
        by_checks false p = refused_keeps _

-- ---- from fresh

zeros : (n : ℕ) → 1 ≤ n → table_of n [] ≡ replicate n 0
unfolding table_of flatten
zeros zero h = absurd (omega arith)
zeros (suc n) h = let e : suc n - 1 - 6 * 0 ≡ n = omega arith in rw e

-- a table of zeros is in order
pub fresh_table : (c : Committee) (es : List Entry) (n : ℕ) → 1 ≤ n → table_in_order c es (replicate n 0) ≡ true
fresh_table c es n h = rw (← zeros n h) (order_table_of c es n [] (omega arith) no_pairs none_of)
