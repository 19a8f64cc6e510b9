-- Feeding, one record and lists of them, does not look at payloads. Assumes nothing.
use mathlib.Core.Path.{◌≡◌, refl, sym, ap, ap₂, ◌∙◌}
use mathlib.Core.Bool.{Bool, true, false}
use mathlib.Core.List.{List, [], ◌∷◌, map}
use mathlib.Core.Option
use mathlib.Core.Option.{Option, none, some}
use Prim.Native.Nat.{ℕ}
use native.Mathlib.Omega.{arith}
use lib.ListN.{length, length-append}
use Rattle.base.specs.Lists.{pick}
use Rattle.base.specs.Le.{Bytes}
use Rattle.base.specs.Checks.{refusal, passes}
use Rattle.base.proofs.Tests.{not_both}
use Rattle.committee.specs.Committee.{Committee}
use Rattle.record_spec.specs.Block.{event_room}
use Rattle.store_spec.specs.Layout.{Record, read_record, entries, layout}
use Rattle.store_spec.specs.Store.{records_of, store_full}
use Rattle.store_spec.proofs.Store.{read_record_some, Holding, accepting}
use Rattle.pending_spec.specs.Table.{items_of}
use Rattle.feed_spec.specs.Pending.{pending_checks}
use Rattle.feed_spec.specs.Feed.{Lent, processed, lent_checks, rule_checks, accept_checks, record_checks, feed_checks, refused_feed, accepted_feed, feed_record}
use Rattle.feed_spec.specs.Feed.{feed}
use Rattle.feed_spec.proofs.Keeping.{passed, lent_state}
use Rattle.load_spec.specs.Needs.{without_payloads}
use Rattle.mission_theorems.specs.Feeds.{Feed, Engine, fresh, outcome, left, run}
use Rattle.mission_theorems.specs.ThirdStatement.{Start}
use Rattle.mission_theorems.proofs.Storing.{fresh_holds}
use Rattle.payload_theorems.specs.Apart.{Shape, shape, Apart, HeldApart, LentApart, FeedApart, EachApart, no_feeds, and_feed, StartApart, Told, tell}
use Rattle.payload_theorems.specs.Apart.{told}
use Rattle.payload_theorems.specs.Claims.{FeedingUnseen, SameFed, FeedUnseen}
use Rattle.payload_theorems.proofs.Blocks.{feeding_unseen}
use Rattle.payload_theorems.proofs.Checks.{room_same, checks_same, used_same, length_same, entries_same, table_same}

-- ---- one feed

same_block : (r q : Record) → shape r ≡ shape q → without_payloads r.block ≡ without_payloads q.block
unfolding shape
same_block r q e = ap (λ (x : Shape). x.block) e

pub pending_same : (c : Committee) (s r : Bytes) (t : List ℕ) → HeldApart c s r → pending_checks c s t ≡ pending_checks c r t
unfolding pending_checks
pending_same c s r t a =
    rw (a.order, table_same c (entries (records_of s)) (entries (records_of r)) t (entries_same (records_of s) (records_of r) a.records))

module _ (c : Committee) (m n : Lent) (a : LentApart c m n) where
  abbrev rs : List Record
  rs = records_of m.store

  abbrev qs : List Record
  qs = records_of n.store

  lent_same : lent_checks c m ≡ lent_checks c n
  unfolding lent_checks
  lent_same = rw (pending_same c m.store n.store m.table a.store, a.work, a.table)

  module _ (r q : Record) (e : shape r ≡ shape q) where
    held : map shape (r ∷ rs) ≡ map shape (q ∷ qs)
    held = ap₂ {C = List Shape} (λ x xs. x ∷ xs) e a.store.records

    processed_same : processed c m r ≡ processed c n q
    unfolding processed FeedingUnseen
    processed_same =
        feeding_unseen c (entries (r ∷ rs)) (entries (q ∷ qs)) r.block q.block (items_of m.table) (entries_same (r ∷ rs) (q ∷ qs) held)
        (same_block r q e)
        ∙ ap (λ (t : List ℕ). processed c (record { store = n.store; table = t; work = n.work; events = n.events }) q) a.table

    events_room : event_room r.block ≡ event_room q.block
    events_room = sym (room_same r.block) ∙ ap event_room (same_block r q e) ∙ room_same q.block

    full_same : store_full m.store r ≡ store_full n.store q
    unfolding store_full
    full_same = rw (a.store.size, used_same (r ∷ rs) (q ∷ qs) held, length_same rs qs a.store.records)

    accept_same : accept_checks c m.store (length m.events) (some r) ≡ accept_checks c n.store (length n.events) (some q)
    unfolding accept_checks rule_checks
    accept_same = rw (checks_same c rs qs r.block q.block a.store.records (same_block r q e), a.events, events_room, full_same)

    record_same : feed_checks c m (some r) ≡ feed_checks c n (some q)
    unfolding feed_checks record_checks
    record_same = rw (lent_same, accept_same, processed_same, a.table)

    accepted_same : (x y : Bytes) → read_record x ≡ some r → read_record y ≡ some q → passes (feed_checks c m (some r)) ≡ true
        → SameFed c (accepted_feed c m r) (accepted_feed c n q)
    unfolding accepted_feed tell
    accepted_same x y f g p =
        let o : passes (feed_checks c n (some q)) ≡ true = rw (← record_same) p in
        let h : Holding c (r ∷ rs) m.store =
        accepting c m.store r (lent_state c m r p).store (read_record_some x r f) (passed c m r p).block (passed c m r p).stored in
        let k : Holding c (q ∷ qs) n.store =
        accepting c n.store q (lent_state c n q o).store (read_record_some y q g) (passed c n q o).block (passed c n q o).stored in
        record {
          told = rw (processed_same, a.table, a.events);
          store = record {
            size = h.size ∙ a.store.size ∙ sym k.size;
            order = h.order ∙ sym k.order;
            records = ap (map shape) h.records ∙ held ∙ sym (ap (map shape) k.records);
          };
        }

  refused_same : (i j : ℕ) → i ≡ j → SameFed c (refused_feed m i) (refused_feed n j)
  unfolding refused_feed tell
  refused_same i j e = record { told = rw (e, a.table, a.events); store = a.store }

  pub fed_same : (x y : Bytes) → Apart x y → SameFed c (feed c m x) (feed c n y)
  unfolding Apart feed feed_record
  fed_same x y e = go (read_record x) (read_record y) refl refl e
    where
      go : (o p : Option Record) → read_record x ≡ o → read_record y ≡ p → Option.map shape o ≡ Option.map shape p
          → SameFed c (feed_record c m o) (feed_record c n p)
      go none none f g e = refused_same _ _ (unfold feed_checks record_checks accept_checks rule_checks in rw lent_same)
      go none (some q) f g e = let z : ◌≡◌ {A = ℕ} 0 1 = cc in absurd (omega arith)
      go (some r) none f g e = let z : ◌≡◌ {A = ℕ} 0 1 = cc in absurd (omega arith)
      go (some r) (some q) f g e =
          let z : shape r ≡ shape q = cc in
          by r q f g z (passes (feed_checks c m (some r))) refl (passes (feed_checks c n (some q))) refl
        where
          by : (r q : Record) → read_record x ≡ some r → read_record y ≡ some q → shape r ≡ shape q → (t : Bool) → passes (feed_checks c m (some r)) ≡ t
              → (u : Bool) → passes (feed_checks c n (some q)) ≡ u
              → SameFed c (pick t (accepted_feed c m r) (refused_feed m (refusal (feed_checks c m (some r)))))
              (pick u (accepted_feed c n q) (refused_feed n (refusal (feed_checks c n (some q)))))
          by r q f g z true h true k = accepted_same r q z x y f g h
          by r q f g z false h false k = refused_same _ _ (ap refusal (record_same r q z))
          by r q f g z true h false k = absurd (not_both (sym (ap passes (record_same r q z)) ∙ h) k)
          by r q f g z false h true k = absurd (not_both (ap passes (record_same r q z) ∙ k) h)

pub feed_unseen : FeedUnseen
unfolding FeedUnseen
feed_unseen c m n r q a e = fed_same c m n a r q e

-- ---- lists of feeds

-- engines whose stores differ in payloads alone
pub record EngineApart (c : Committee) (g h : Engine) : Type 0 where
  pub store : HeldApart c g.store h.store
  pub table : g.table ≡ h.table

lent_apart : (c : Committee) (g h : Engine) (f k : Feed) → EngineApart c g h → FeedApart f k
    → LentApart c (record { store = g.store; table = g.table; work = f.work; events = f.events })
    (record { store = h.store; table = h.table; work = k.work; events = k.events })
lent_apart c g h f k a e = record { store = a.store; table = a.table; work = e.work; events = e.events }

outcome_same : (c : Committee) (g h : Engine) (f k : Feed) → EngineApart c g h → FeedApart f k → SameFed c (outcome c g f) (outcome c h k)
unfolding outcome
outcome_same c g h f k a e = fed_same c _ _ (lent_apart c g h f k a e) f.bytes k.bytes e.bytes

pub run_same : (c : Committee) (g h : Engine) → EngineApart c g h → (fs ks : List Feed) → EachApart fs ks → EngineApart c (run c g fs) (run c h ks)
unfolding run left tell
run_same c g h a (f ∷ fs) [] x3 = elim x3 [ ]
run_same c g h a [] (k ∷ ks) x'' = elim x'' [ ]
run_same c g h a [] [] no_feeds = a
run_same c g h a (f ∷ fs) (k ∷ ks) (and_feed e es) =
    let o = outcome_same c (run c g fs) (run c h ks) f k (run_same c g h a fs ks es) e in
    record { store = o.store; table = ap (λ (x : Told). x.table) o.told }

pub told_same : (c : Committee) (g h : Engine) → EngineApart c g h → (fs ks : List Feed) → EachApart fs ks → told c g fs ≡ told c h ks
unfolding told
told_same c g h a (f ∷ fs) [] x3 = elim x3 [ ]
told_same c g h a [] (k ∷ ks) x'' = elim x'' [ ]
told_same c g h a [] [] no_feeds = refl
told_same c g h a (f ∷ fs) (k ∷ ks) (and_feed e es) =
    ap₂ {C = List Told} (λ x xs. x ∷ xs) (outcome_same c (run c g fs) (run c h ks) f k (run_same c g h a fs ks es) e).told (told_same c g h a fs ks es)

pub fresh_apart : (c : Committee) (t u : Start) → StartApart t u → EngineApart c (fresh t.past t.words) (fresh u.past u.words)
unfolding fresh
fresh_apart c t u a =
    let h = fresh_holds c t.past t.allowed in
    let k = fresh_holds c u.past u.allowed in
    record {
      store = record {
        size = length-append (layout []) t.past ∙ rw a.past (sym (length-append (layout []) u.past));
        order = h.order ∙ sym k.order;
        records = ap (map shape) (h.records ∙ sym k.records);
      };
      table = rw a.words;
    }
