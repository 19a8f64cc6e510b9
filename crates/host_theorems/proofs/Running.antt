-- An engine that a host feeds in bytes is the engine of words, in bytes. Assumes nothing.
use mathlib.Core.Path.{◌≡◌, refl, sym, ap, ap₂, subst, ◌∙◌}
use mathlib.Core.Bool.{true, false}
use mathlib.Core.List.{List, [], ◌∷◌, ◌++◌, map, flatten}
use mathlib.Core.Option.{Option, none, some}
use Prim.Native.Nat.{ℕ, zero, suc, ◌+◌, ◌-◌, ◌*◌, ◌/◌, ◌%◌, ◌<◌}
use native.Mathlib.Decide.{ℕ_discrete}
use native.Mathlib.Omega.{arith}
use lib.Dec.{eqb}
use lib.ListN.{length, drop, replicate, length-append, length-replicate, replicate-append-replicate}
use borrow.Author.Tests.{eq-eqb, ne_eqb}
use Rattle.base.specs.Lists.{pick}
use Rattle.base.specs.Le.{Bytes, le_bytes}
use Rattle.base.specs.Checks.{passes}
use Rattle.base.specs.Read.{give, repeated}
use Rattle.base.proofs.Lists.{Every, none_of, and}
use Rattle.base.proofs.Le.{AllBytes, bytes_append}
use Rattle.committee.specs.Committee.{Committee, broken}
use Rattle.committee.proofs.Bounds.{few_members, known_below}
use Rattle.record_spec.specs.Block.{author}
use Rattle.record_spec.proofs.Claimed.{bytes_fit}
use Rattle.record_spec.proofs.Computing.{computing}
use Rattle.record_spec.proofs.Records.{BlockFits, block_of_fits}
use Rattle.store_spec.specs.Layout.{Record, read_record, entries, layout}
use Rattle.store_spec.specs.Store.{records_of}
use Rattle.store_spec.proofs.Accepted.{known_author}
use Rattle.store_spec.proofs.Ends.{accept_lower}
use Rattle.store_spec.proofs.Store.{in_order_lem, longest, used_within, read_record_some, read_record_bytes, right_block, records_of_bytes}
use Rattle.pending_spec.specs.Table.{item_words, items_read, items_of, table_of}
use Rattle.pending_spec.proofs.Table.{items_of_table_of, length_words}
use Rattle.pending_spec.proofs.Order as order
use Rattle.feed_spec.specs.ProcessBlock as counted
use Rattle.feed_spec.specs.Feed.{Lent, lent_of, Fed, processed, feed_checks, refused_feed, accepted_feed, feed_record, feed}
use Rattle.feed_spec.proofs.Keeping.{passed, State, feed_keeps, fresh_table}
use Rattle.feed_spec.proofs.Events.{processed_source}
use Rattle.final_spec.specs.Finality.{blocks_of}
use Rattle.final_spec.proofs.Fits.{block_fits}
use Rattle.words.specs.Words.{words_in, words_of, bytes_of}
use Rattle.words.proofs.Words.{Words, no_words, length_bytes_of, words_in_bytes_of}
use Rattle.mission_theorems.specs.Feeds.{Feed, Engine, fresh, outcome, left, run, Accepted, accepted_in, accepted}
use Rattle.mission_theorems.specs.ThirdStatement.{Start, engine_of, accepted_of}
use Rattle.mission_theorems.proofs.Feeds.{feed_cases}
use Rattle.mission_theorems.proofs.Storing.{fresh_holds}
use Rattle.host_calls.specs.Calls.{committee_of}
use Rattle.host_feed_bytes.specs.Feed.{FeedCall, refused_call, fed_call, fed_with, feed_of, feed_call}
use Rattle.host_feed_bytes.proofs.Feeds.{work_free, feed_eventless, feed_sized}
use Rattle.host_theorems.specs.Feeds.{ByteFeed, ByteEngine, fresh_bytes, fed_bytes, left_bytes, run_bytes, accepted_bytes, ByteStart, host_of, accepted_by}
use Rattle.host_theorems.proofs.Fitting.{words_append, words_drop, lent_words, VotesFit, process_fits, table_words, events_words, layout_bytes}
use Rattle.host_theorems.proofs.Fitting.{holding_bytes}

fresh_items : (n : ℕ) → items_of (replicate n 0) ≡ []
unfolding items_of items_read repeated give
fresh_items zero = refl
fresh_items (suc n) = refl

-- ---- what stays so from feed to feed

pub record Fits (c : Committee) (g : Engine) : Type 0 where
  pub state : State c g.store g.table
  pub bytes : AllBytes g.store
  pub votes : Every VotesFit (items_of g.table)
  pub size : length g.table ≡ 6145

-- what a feed leaves: bytes, and votes and events that fit their words
record Leaves (f : Fed) : Type 0 where
  bytes : AllBytes f.store
  votes : Every VotesFit (items_of f.table)
  events : Words f.events

few_items : (t : List ℕ) → length t ≡ 6145 → t ≡ table_of (length t) (items_of t) → length (items_of t) < 18446744073709551616
unfolding table_of
few_items t e l =
    let whole : length t ≡ length (table_of (length t) (items_of t)) = ap (λ (w : List ℕ). length w) l in
    omega (
      arith,
      whole,
      e,
      length_words (items_of t),
      length-append (flatten (map item_words (items_of t)))
          (replicate (length t - 1 - 6 * length (items_of t)) 0),
    )

module _ (c : Committee) (b : broken c ≡ false) where
  pub table_fits : (g : Engine) → Fits c g → Words g.table
  table_fits g h =
      let rs : List Record = records_of g.store in
      let o = in_order_lem c g.store h.state.store in
      let t = order.in_order_lem c (entries rs) g.table h.state.table in
      subst Words (sym t.laid)
      (table_words c b rs (omega (arith, used_within c g.store o, longest g.store o.allowed))
      (λ d m. block_fits g.store h.bytes d (unfold blocks_of in m))
      (length g.table) (items_of g.table) (few_items g.table h.size t.laid) t.items h.votes)

  module _ (m : Lent) (fits : Fits c (record { store = m.store; table = m.table })) (lent : Words m.events) where
    accepted_leaves : (bytes : Bytes) → AllBytes bytes → (r : Record) → read_record bytes ≡ some r → passes (feed_checks c m (some r)) ≡ true
        → Leaves (accepted_feed c m r)
    unfolding accepted_feed
    accepted_leaves bytes h r e p =
        let a = passed c m r p in
        let own : AllBytes r.bytes = subst AllBytes (sym (read_record_bytes bytes r e)) h in
        let fit : BlockFits r.block = block_of_fits r.bytes r.block own (right_block r (read_record_some bytes r e)) in
        let told : List ℕ = counted.words_of (processed c m r).events in
        let known = known_below c (author r.block) (known_author c (records_of m.store) r.block a.block) in
        record {
          bytes = holding_bytes (r ∷ records_of m.store) m.store (and own (records_of_bytes m.store fits.bytes)) fits.bytes;
          votes =
              rw (items_of_table_of (length m.table) (processed c m r).items)
              (unfold processed in process_fits c (entries (r ∷ records_of m.store)) r.block (items_of m.table)
              (omega (arith, known, few_members c b)) fits.votes);
          events = words_append told (drop (length told) m.events)
              (events_words (entries (r ∷ records_of m.store)) r.block fit (accept_lower c (records_of m.store) r.block a.block)
              (processed c m r).events (processed_source c m r p))
              (words_drop (length told) m.events lent);
        }

    feed_leaves : (bytes : Bytes) → AllBytes bytes → Leaves (feed c m bytes)
    unfolding refused_feed
    feed_leaves bytes h =
        feed_cases c m bytes (λ o as'. Leaves o) (λ n. record { bytes = fits.bytes; votes = fits.votes; events = lent }) (accepted_leaves bytes h)

  outcome_fits : (g : Engine) (f : Feed) → Fits c g → AllBytes f.bytes → Words f.events → Fits c (left (outcome c g f)) × Words (outcome c g f).events
  unfolding outcome left
  outcome_fits g f h k w =
      let m : Lent = lent_of g.store g.table f.work f.events in
      let l = feed_leaves m (record { state = h.state; bytes = h.bytes; votes = h.votes; size = h.size }) w f.bytes k in
      let q = feed_keeps c m f.bytes h.state in
      (record { state = q.state; bytes = l.bytes; votes = l.votes; size = q.table ∙ h.size }, l.events)

-- ---- a feed in bytes

-- a feed of words; where the bytes lent for events are not of the right size, one that is refused as well
pub to_feed : ByteFeed → Feed
to_feed f =
    pick (eqb (length f.events) 65536)
    (record { bytes = f.bytes; work = replicate 6145 0; events = words_of f.events })
    (record { bytes = []; work = replicate 6145 0; events = [] })

-- an engine of words, in bytes
unfoldable pub in_bytes : Engine → ByteEngine
in_bytes g = record { store = g.store; table = bytes_of g.table }

none_read : read_record [] ≡ none
unfolding computing read_record
none_read = refl

pub words_back : (ws : List ℕ) → Words ws → words_of (bytes_of ws) ≡ ws
unfolding words_of
words_back ws h =
    let n : length (bytes_of ws) / 8 ≡ length ws = omega (arith, length_bytes_of ws) in
    rw n (words_in_bytes_of ws h)

-- what a feed in bytes leaves and tells, beside the feed of words
pub record Alike (f : ByteFeed) (o : FeedCall) (p : Fed) : Type 0 where
  pub engine : left_bytes o ≡ in_bytes (left p)
  pub told : accepted_in (read_record f.bytes) o.answer (words_of o.events) ≡ accepted_in (read_record (to_feed f).bytes) p.answer p.events

fed_left : (p : Fed) → left_bytes (fed_call p) ≡ in_bytes (left p)
unfolding left_bytes fed_call in_bytes left
fed_left p = refl

fed_told : (o : Option Record) (p : Fed) → Words p.events
    → accepted_in o (fed_call p).answer (words_of (fed_call p).events) ≡ accepted_in o p.answer p.events
unfolding fed_call
fed_told o p w = ap (λ (ws : List ℕ). accepted_in o p.answer ws) (words_back p.events w)

refused_left : (s t v : Bytes) (n : ℕ) → left_bytes (refused_call s t v n) ≡ record { store = s; table = t }
unfolding left_bytes refused_call
refused_left s t v n = refl

refused_told : (o : Option Record) (s t v : Bytes) (n : ℕ) → accepted_in o (refused_call s t v n).answer (words_of (refused_call s t v n).events) ≡ []
unfolding accepted_in refused_call
refused_told none s t v n = refl
refused_told (some r) s t v n = refl

lent_fits : (v : Bytes) → AllBytes v → Words (words_of v)
unfolding words_of
lent_fits v h = lent_words (length v / 8) v h

-- the work slice that the call has of its own
any_work : (c : Committee) (s : Bytes) (t v : List ℕ) (rec : Bytes) → length t ≡ 6145 → fed_with c s t v rec ≡ feed c (lent_of s t (replicate 6145 0) v) rec
unfolding fed_with
any_work c s t v rec e = work_free c s t t (replicate 6145 0) v rec (e ∙ sym (length-replicate {A = ℕ} 6145 0))

module _ (stakes : Bytes) (b : broken (committee_of stakes) ≡ false) (g : Engine) (h : Fits (committee_of stakes) g) (f : ByteFeed) where
  abbrev c : Committee
  c = committee_of stakes

  abbrev t : Bytes
  t = bytes_of g.table

  table_size : length t ≡ 49160
  table_size = omega (arith, length_bytes_of g.table, h.size)

  table_back : words_in 6145 t ≡ g.table
  table_back = ap (λ (n : ℕ). words_in n t) (sym h.size) ∙ words_in_bytes_of g.table (table_fits c b g h)

  fits_sized : length f.events ≡ 65536 → to_feed f ≡ record { bytes = f.bytes; work = replicate 6145 0; events = words_of f.events }
  unfolding to_feed
  fits_sized k = rw (eq-eqb (length f.events) 65536 k)

  fits_none : (length f.events ≡ 65536 → ⊥) → to_feed f ≡ record { bytes = []; work = replicate 6145 0; events = [] }
  unfolding to_feed
  fits_none k = rw (ne_eqb (length f.events) 65536 k)

  -- the feed of words that it is
  pub sound_feed : AllBytes (to_feed f).bytes × Words (to_feed f).events
  sound_feed = by (ℕ_discrete (length f.events) 65536)
    where
      by : Dec (length f.events ≡ 65536) → AllBytes (to_feed f).bytes × Words (to_feed f).events
      by (yes k) = rw (fits_sized k) (bytes_fit f.bytes f.sent, lent_fits f.events (bytes_fit f.events f.lent))
      by (no k) = rw (fits_none k) (tt, no_words)

  -- what a feed of words tells
  told_by : Feed → List Accepted
  told_by d = accepted_in (read_record d.bytes) (outcome c g d).answer (outcome c g d).events

  sized_alike : length f.events ≡ 65536 → Alike f (fed_bytes stakes (in_bytes g) f) (outcome c g (to_feed f))
  unfolding fed_bytes feed_call in_bytes outcome told_by
  sized_alike k =
      let d : Feed = record { bytes = f.bytes; work = replicate 6145 0; events = words_of f.events } in
      let w : Words (outcome c g d).events =
      (outcome_fits c b g d h (bytes_fit f.bytes f.sent) (lent_fits f.events (bytes_fit f.events f.lent))).1 in
      let call : feed_of c g.store t f.events f.bytes ≡ fed_call (outcome c g d) =
      feed_sized c g.store t f.events f.bytes table_size k
      ∙ ap (λ (ws : List ℕ). fed_call (fed_with c g.store ws (words_of f.events) f.bytes)) table_back
      ∙ ap fed_call (any_work c g.store g.table (words_of f.events) f.bytes h.size) in
      record {
        engine = ap left_bytes call ∙ fed_left (outcome c g d) ∙ ap (λ (e : Feed). in_bytes (left (outcome c g e))) (sym (fits_sized k));
        told =
            ap (λ (o : FeedCall). accepted_in (read_record f.bytes) o.answer (words_of o.events)) call
            ∙ fed_told (read_record f.bytes) (outcome c g d) w
            ∙ ap told_by (sym (fits_sized k));
      }

  none_outcome : left (outcome c g (record { bytes = []; work = replicate 6145 0; events = [] })) ≡ g
  unfolding outcome left feed feed_record refused_feed
  none_outcome = rw none_read

  none_told : told_by (record { bytes = []; work = replicate 6145 0; events = [] }) ≡ []
  unfolding told_by accepted_in
  none_told = rw none_read

  none_alike : (length f.events ≡ 65536 → ⊥) → Alike f (fed_bytes stakes (in_bytes g) f) (outcome c g (to_feed f))
  unfolding fed_bytes feed_call in_bytes told_by
  none_alike k = by _ (feed_eventless c g.store t f.events f.bytes table_size k)
    where
      by : (n : ℕ) → feed_of c g.store t f.events f.bytes ≡ refused_call g.store t f.events n
          → Alike f (fed_bytes stakes (in_bytes g) f) (outcome c g (to_feed f))
      by n e =
          record {
            engine =
                ap left_bytes e ∙ refused_left g.store t f.events n ∙ ap in_bytes
                (sym (ap (λ (d : Feed). left (outcome c g d)) (fits_none k) ∙ none_outcome));
            told =
                ap (λ (o : FeedCall). accepted_in (read_record f.bytes) o.answer (words_of o.events)) e
                ∙ refused_told (read_record f.bytes) g.store t f.events n
                ∙ sym (ap told_by (fits_none k) ∙ none_told);
          }

  pub feed_alike : Alike f (fed_bytes stakes (in_bytes g) f) (outcome c g (to_feed f))
  feed_alike = by (ℕ_discrete (length f.events) 65536)
    where
      by : Dec (length f.events ≡ 65536) → Alike f (fed_bytes stakes (in_bytes g) f) (outcome c g (to_feed f))
      by (yes k) = sized_alike k
      by (no k) = none_alike k

-- ---- lists of feeds

zero_number : (k : ℕ) → le_bytes k 0 ≡ replicate k 0
unfolding le_bytes
zero_number zero = refl
zero_number (suc k) =
    let q : 0 / 256 ≡ 0 = omega arith in
    let m : 0 % 256 ≡ 0 = omega arith in
    rw (q, m, zero_number k)

zeros : (n : ℕ) → bytes_of (replicate n 0) ≡ replicate (8 * n) 0
unfolding bytes_of flatten
zeros zero = refl
zeros (suc n) =
    let e : 8 * suc n ≡ 8 + 8 * n = omega arith in
    rw (zero_number 8, e) (ap (λ (xs : List ℕ). replicate 8 0 ++ xs) (zeros n) ∙ replicate-append-replicate 8 (8 * n) 0)

-- a host's start, in words
unfoldable pub to_start : ByteStart → Start
to_start t = record { past = t.past; allowed = t.allowed; words = 6145; feeds = map to_feed t.feeds }

module _ (stakes : Bytes) (b : broken (committee_of stakes) ≡ false) (u : ByteStart) where
  abbrev d : Committee
  d = committee_of stakes

  abbrev from : Engine
  from = fresh u.past 6145

  fresh_fits : Fits d from
  unfolding fresh
  fresh_fits =
      record {
        state = record { store = (fresh_holds d u.past u.allowed).order; table = fresh_table d _ 6145 (omega arith) };
        bytes = bytes_append (layout []) u.past (layout_bytes [] none_of) (bytes_fit u.past u.filled);
        votes = rw (fresh_items 6145) none_of;
        size = length-replicate {A = ℕ} 6145 0;
      }

  run_fits : (fs : List ByteFeed) → Fits d (run d from (map to_feed fs))
  unfolding run
  run_fits [] = fresh_fits
  run_fits (f ∷ fs) =
      let h = run_fits fs in
      let k = sound_feed stakes b (run d from (map to_feed fs)) h f in
      (outcome_fits d b (run d from (map to_feed fs)) (to_feed f) h k.0 k.1).0

  fresh_bytes_lem : fresh_bytes u.past ≡ in_bytes from
  unfolding fresh_bytes in_bytes fresh
  fresh_bytes_lem = ap (λ (t : Bytes). record { store = layout [] ++ u.past; table = t }) (sym (zeros 6145))

  run_alike : (fs : List ByteFeed) → run_bytes stakes (fresh_bytes u.past) fs ≡ in_bytes (run d from (map to_feed fs))
  unfolding run_bytes run
  run_alike [] = fresh_bytes_lem
  run_alike (f ∷ fs) =
      ap (λ (g : ByteEngine). left_bytes (fed_bytes stakes g f)) (run_alike fs) ∙ (feed_alike stakes b (run d from (map to_feed fs)) (run_fits fs) f).engine

  accepted_alike : (fs : List ByteFeed) → accepted_bytes stakes (fresh_bytes u.past) fs ≡ accepted d from (map to_feed fs)
  unfolding accepted_bytes accepted
  accepted_alike [] = refl
  accepted_alike (f ∷ fs) =
      ap₂ {C = List Accepted}
      (λ (g : ByteEngine) (as' : List Accepted). accepted_in (read_record f.bytes) (fed_bytes stakes g f).answer
      (words_of (fed_bytes stakes g f).events) ++ as')
      (run_alike fs) (accepted_alike fs)
      ∙ ap (λ (as' : List Accepted). as' ++ accepted d from (map to_feed fs)) (feed_alike stakes b (run d from (map to_feed fs)) (run_fits fs) f).told

  -- the engine is the one of words
  pub host_engine : host_of stakes u ≡ in_bytes (engine_of d (to_start u))
  unfolding host_of engine_of to_start
  host_engine = run_alike u.feeds

  pub host_accepted : accepted_by stakes u ≡ accepted_of d (to_start u)
  unfolding accepted_by accepted_of to_start
  host_accepted = accepted_alike u.feeds

  pub host_fits : Fits d (engine_of d (to_start u))
  unfolding engine_of to_start
  host_fits = run_fits u.feeds
