-- The mission's first statement. Assumes nothing.
use mathlib.Core.Path.{◌≡◌, refl, ap, ◌∙◌}
use mathlib.Core.Bool.{Bool, true, false, not, ◌&&◌}
use mathlib.Core.List.{List, [], ◌∷◌, ◌++◌}
use mathlib.Core.Option.{Option, none, some}
use Prim.Native.Nat.{◌≤◌}
use lib.ListN.{length, drop}
use lib.Seq.{drop_at}
use borrow.Author.Tests.{le-ltb, ltb-false}
use Rattle.base.specs.Lists.{pick, all_of}
use Rattle.base.specs.Le.{Bytes}
use Rattle.base.specs.Checks.{Check, ◌⇒◌, refusal, passes}
use Rattle.base.proofs.Tests.{not_both, fails}
use Rattle.base.proofs.Checks.{passes_first, passes_others, passes_left, passes_right}
use Rattle.base.proofs.Passing.{passes_append}
use Rattle.committee.specs.Committee.{Committee, broken}
use Rattle.record_spec.specs.Block.{event_room}
use Rattle.store_spec.specs.Layout.{Record, read_record, layout}
use Rattle.store_spec.specs.Accept.{block_checks}
use Rattle.store_spec.specs.Store.{records_of, store_holding}
use Rattle.store_spec.proofs.Store.{length_layout, read_record_some, Holding, accepting}
use Rattle.pending_spec.specs.Table.{room}
use Rattle.pending_spec.proofs.Table.{items_of_table_of}
use Rattle.feed_spec.specs.Pending.{pending_checks}
use Rattle.feed_spec.specs.Feed.{Lent, processed, lent_checks, rule_checks, accept_checks, record_checks, feed_checks, refused_feed, accepted_feed, feed_record}
use Rattle.feed_spec.specs.Feed.{feed}
use Rattle.feed_spec.specs.ProcessBlock.{words_of}
use Rattle.feed_spec.proofs.Keeping.{Passed, passed, items_fit, State, lent_state, Kept, feed_keeps}
use Rattle.feed_spec.proofs.ProcessBlock.{length_words}
use Rattle.mission_theorems.specs.FirstStatement.{EnoughMemory, KeepsRules, Counted, FirstApplies, here, later, Refused, FirstStatement}

-- the refusal number is the first that applies
first_applies : (ks : List Check) → passes ks ≡ false → FirstApplies (refusal ks) ks
unfolding passes all_of refusal
first_applies [] h = absurd (not_both refl h)
first_applies (k ∷ ks) h = go k.applies refl h (first_applies ks)
  where
    go : (t : Bool) → k.applies ≡ t → not t && passes ks ≡ false → (passes ks ≡ false → FirstApplies (refusal ks) ks) → FirstApplies
        (pick t k.number (refusal ks)) (k ∷ ks)
    go true e h ih = here e
    go false e h ih = later e (ih h)

-- what the first and the fourth check say
lent_facts : (c : Committee) (m : Lent) (r : Record) → passes (feed_checks c m (some r)) ≡ true → (broken c ≡ false) × (length m.table ≤ length m.work)
unfolding feed_checks lent_checks pending_checks
lent_facts c m r p =
    let h = passes_left (lent_checks c m) (record_checks c m (some r)) p in
    (passes_first _ _ h, ltb-false _ _ (passes_first _ _ (passes_others _ _ (passes_others _ _ (passes_others _ _ h)))))

-- a record that keeps the rules passes every check
lent_passes : (c : Committee) (m : Lent) (r : Record) → EnoughMemory c m r → passes (lent_checks c m) ≡ true
unfolding lent_checks pending_checks passes all_of
lent_passes c m r e = rw (e.committee, e.store, e.table, le-ltb (length m.work) (length m.table) e.work)

accept_passes : (c : Committee) (m : Lent) (r : Record) → passes (block_checks c (records_of m.store) r.block) ≡ true → EnoughMemory c m r
    → passes (accept_checks c m.store (length m.events) (some r)) ≡ true
unfolding accept_checks rule_checks passes all_of
accept_passes c m r b e =
    passes_append (block_checks c (records_of m.store) r.block) _
    ∙ rw (b, le-ltb (length m.events) (event_room r.block) e.events, e.bytes)

all_pass : (c : Committee) (m : Lent) (r : Record) → passes (block_checks c (records_of m.store) r.block) ≡ true → EnoughMemory c m r → passes
    (feed_checks c m (some r)) ≡ true
unfolding feed_checks record_checks passes all_of
all_pass c m r b e =
    let ks = accept_checks c m.store (length m.events) (some r) in
    passes_append (lent_checks c m) _
    ∙ rw (lent_passes c m r e) (passes_append ks _ ∙ rw (accept_passes c m r b e, le-ltb (room m.table) (processed c m r).most e.items))

-- "is stored and counted"
counted : (c : Committee) (m : Lent) (bytes : Bytes) (k : KeepsRules c m bytes) → Counted c m k.rec (feed c m bytes)
counted c m bytes k = rw accepts here_counted
  where
    r : Record
    r = k.rec

    e : EnoughMemory c m r
    e = k.memory

    accepts : feed c m bytes ≡ accepted_feed c m r
    accepts = unfold feed feed_record in rw (k.formed, all_pass c m r k.rules e)

    held : Holding c (r ∷ records_of m.store) m.store
    held = accepting c m.store r e.store (read_record_some bytes r k.formed) k.rules e.bytes

    kept : Kept c m (accepted_feed c m r)
    kept = rw accepts at (feed_keeps c m bytes (record { store = e.store; table = e.table }))

    here_counted : Counted c m r (accepted_feed c m r)
    here_counted =
        record {
          answer = unfold accepted_feed in refl;
          stored = unfold accepted_feed in held.records;
          store_order = kept.state.store;
          store_past = unfold accepted_feed store_holding in drop_at (layout (r ∷ records_of m.store)) _ _ (length_layout (r ∷ records_of m.store));
          items = unfold accepted_feed in items_of_table_of (length m.table) (processed c m r).items;
          table_order = rw (← records) kept.state.table;
          events = unfold accepted_feed in ap (λ n. words_of (processed c m r).events ++ drop n m.events) (length_words (processed c m r).events);
        }
      where
        records : records_of (accepted_feed c m r).store ≡ r ∷ records_of m.store
        records = unfold accepted_feed in held.records

-- "Every other input gets the first refusal number that applies"
others : (c : Committee) (m : Lent) (bytes : Bytes) → (KeepsRules c m bytes → ⊥) → Refused c m bytes (feed c m bytes)
others c m bytes n = unfold feed in go (read_record bytes) refl
  where
    refuses : passes (feed_checks c m (read_record bytes)) ≡ false → Refused c m bytes (refused_feed m (refusal (feed_checks c m (read_record bytes))))
    refuses f =
        unfold refused_feed in
        record {
          number = refusal (feed_checks c m (read_record bytes));
          answer = refl;
          first = first_applies (feed_checks c m (read_record bytes)) f;
          store =
              refl;
          table = refl;
          events = refl;
        }

    never : passes (feed_checks c m none) ≡ false
    never =
        unfold feed_checks record_checks accept_checks rule_checks in
        fails _ (λ p. not_both refl (passes_first (true ⇒ 20) [] (passes_right (lent_checks c m) _ p)))

    keeps : (r : Record) → read_record bytes ≡ some r → passes (feed_checks c m (some r)) ≡ true → KeepsRules c m bytes
    keeps r e p =
        let a : Passed c m r = passed c m r p in
        let s : State c m.store m.table = lent_state c m r p in
        let l = lent_facts c m r p in
        let fits = items_fit c m r p in
        record {
          rec = r;
          formed = e;
          rules = a.block;
          memory = record { committee = l.0; store = s.store; table = s.table; work = l.1; events = a.events; bytes = a.stored; items = fits };
        }

    go : (o : Option Record) → read_record bytes ≡ o → Refused c m bytes (feed_record c m o)
    go none e = unfold feed_record in rw e at (refuses (rw e never))
    go (some r) e = unfold feed_record in by_checks (passes (feed_checks c m (some r))) refl
      where
        by_checks : (t : Bool) → passes (feed_checks c m (some r)) ≡ t
            → Refused c m bytes (pick t (accepted_feed c m r) (refused_feed m (refusal (feed_checks c m (some r)))))
        by_checks true p = absurd (n (keeps r e p))
        by_checks false p = rw e at (refuses (rw e p))

pub first_statement : FirstStatement
first_statement = record { kept = counted; others = others }
