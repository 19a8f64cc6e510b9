-- One feed with the index of memory in order: what is told of it, and that memory is in order and the parts are known again. Assumes nothing.
use mathlib.Core.Path.{◌≡◌, refl, sym, ap, subst, ◌∙◌}
use mathlib.Core.Bool.{Bool, true, false}
use mathlib.Core.List.{List, ◌∷◌, map}
use mathlib.Core.Option.{Option, none, some}
use Prim.Native.Nat.{ℕ, ◌+◌, ◌*◌, ◌^◌, ◌≤◌, ◌<◌}
use native.Mathlib.Omega.{arith}
use lib.ListN.{length, get_or, take}
use lib.Seq.{length-take-le}
use Rattle.base.specs.Lists.{pick}
use Rattle.base.specs.Le.{Bytes, le_at}
use Rattle.base.specs.Checks.{refusal, passes, refused, answered}
use Rattle.base.proofs.Le.{AllBytes}
use Rattle.base.proofs.Tests.{and_left}
use Rattle.base.proofs.Checks.{passes_first, passes_others}
use Rattle.committee.specs.Committee.{Committee}
use Rattle.record_spec.specs.Block.{Block}
use Rattle.record_spec.specs.Verify.{head_checks}
use Rattle.store_spec.specs.Layout.{Record, read_record, used_by}
use Rattle.store_spec.specs.Store.{used_length, block_count, records_of, store_holding}
use Rattle.store_spec.specs.Entry.{laid_out, is_in, sorted_positions}
use Rattle.store_spec.specs.Accept.{is_stored, block_checks}
use Rattle.store_spec.proofs.Store.{read_record_some, in_order_lem, Holding, accepting}
use Rattle.store_spec.proofs.Sorted.{is_in_lem}
use Rattle.store_spec.proofs.Check.{order_laid}
use Rattle.feed_spec.specs.Feed.{Lent, refused_feed, accepted_feed, feed}
use Rattle.feed_spec.proofs.Keeping.{State, Passed, passed, feed_keeps}
use Rattle.pending_question.proofs.Lending.{lying, refuses_none}
use Rattle.final_spec.specs.Finality.{blocks_of}
use Rattle.final_block_votes.proofs.Along.{sorted_count, block_count_lem}
use Rattle.store_spec.proofs.Search.{laid_out_lem}
use Rattle.index_spec.specs.Index.{indexed, used_words, index_words, used_part, index_agrees}
use Rattle.index_spec.proofs.Grown.{agrees_used}
use Rattle.index_check.specs.Known.{Known}
use Rattle.index_lent.proofs.Used.{agrees_inside, agrees_some}
use Rattle.index_part_places.specs.Places.{Noted}
use Rattle.index_part_places.proofs.Inserted.{position_in}
use Rattle.index_part_places.proofs.Standing.{used_words_lem, new_stands, runs_fit}
use Rattle.index_part_places.proofs.Knowing.{known_grown}
use Rattle.index_feed_spec.specs.IndexedFeed.{IndexedFed, indexed_checks, refused_indexed, accepted_indexed, feed_indexed_record, feed_indexed}
use Rattle.index_feed_spec.specs.Claims.{AsWithout, RefusedLeaves, StaysAgreed}
use Rattle.index_feed_spec.proofs.Order.{room_passes}
use Rattle.index_feed_spec.proofs.Claimed.{as_without_lem, refused_leaves, stays_agreed}
use Rattle.index_feed_refusals.specs.Step.{Agreed}
use Rattle.feed_many.specs.Records.{outcome_of, words_told}
use Rattle.feed_many.proofs.Telling.{telling}
use Rattle.index_feed_many.specs.Step.{ReadyIndexed, FedNextIndexed}

-- 23: a record that passes is of a block that is not stored
checks_fresh : (c : Committee) (rs : List Record) (b : Block) → passes (block_checks c rs b) ≡ true → is_stored rs b.reference ≡ false
unfolding block_checks head_checks
checks_fresh c rs b h = passes_first _ _ (passes_others _ _ (passes_others _ _ h))

-- ---- the header of a store in order

module _ (s : Bytes) (l : laid_out s ≡ true) where
  pub header_long : 16 ≤ length s
  header_long = (laid_out_lem s l).reads.header.long

  pub counted : le_at 2 s 8 ≡ length (records_of s)
  unfolding block_count
  counted = block_count_lem s l

  pub few_counted : le_at 2 s 8 ≤ 1024
  unfolding block_count
  few_counted = (laid_out_lem s l).reads.header.few

  pub used_up : le_at 4 s 4 ≡ used_by (records_of s)
  unfolding used_length
  used_up = sym (laid_out_lem s l).reads.used

-- an index that agrees has a first word
pub some_words : (bs : List Block) (ix : List ℕ) → index_agrees bs ix ≡ true → 0 < length ix
some_words bs ix h = omega (arith, agrees_inside bs ix h, agrees_some bs ix h)

-- the positions are as many as the stored blocks
pub agreed_counted : {c : Committee} {s : Bytes} {t ix starts : List ℕ} (order : List ℕ) (n : ℕ) → n ≤ length order → Agreed c s t ix (take n order) starts
    → Agreed c s t ix (take (length (records_of s)) order) starts
agreed_counted {c} {s} {t} {ix} {starts} order n h a =
    let e : n ≡ length (records_of s) = sym (length-take-le n order h) ∙ ap length a.sorted.places ∙ sorted_count s a.laid in
    subst (λ (k : ℕ). Agreed c s t ix (take k order) starts) e a

-- any work slice of that length will do
pub ready_work : {c : Committee} {s : Bytes} {t ix w order starts : List ℕ} → ReadyIndexed c s t ix w order starts → (u : List ℕ) → length u ≡ length w
    → ReadyIndexed c s t ix u order starts
ready_work h u e = record { agreed = h.agreed; work = omega (arith, h.work, e); places = h.places; parts = h.parts }

-- a record that was accepted
record Taken (c : Committee) (m : Lent) (ix : List ℕ) (bytes : Bytes) : Type 0 where
  own : Record
  read : read_record bytes ≡ some own
  right : passes (indexed_checks c m ix (some own)) ≡ true
  is : feed_indexed c m ix bytes ≡ accepted_indexed c m ix own

taken : (c : Committee) (m : Lent) (ix : List ℕ) (bytes : Bytes) (n : ℕ) → (feed_indexed c m ix bytes).fed.answer ≡ answered n → Taken c m ix bytes
unfolding feed_indexed feed_indexed_record refused_indexed refused_feed
taken c m ix bytes n e = go (read_record bytes) refl e
  where
    go : (o : Option Record) → read_record bytes ≡ o → (feed_indexed_record c m ix o).fed.answer ≡ answered n → Taken c m ix bytes
    go none q e = let z : ◌≡◌ {A = ℕ} 0 1 = cc in absurd (omega arith)
    go (some r) q e = by (passes (indexed_checks c m ix (some r))) refl e
      where
        by : (t : Bool) → passes (indexed_checks c m ix (some r)) ≡ t
            → (pick t (accepted_indexed c m ix r) (refused_indexed m ix (refusal (indexed_checks c m ix (some r))))).fed.answer ≡ answered n
            → Taken c m ix bytes
        by true p e = record { own = r; read = q; right = p; is = rw (q, p) }
        by false p e = let z : ◌≡◌ {A = ℕ} 0 1 = cc in absurd (omega arith)

module _ (c : Committee) (m : Lent) (ix : List ℕ) (bytes : Bytes) (order starts₀ : List ℕ)
    (h : ReadyIndexed c m.store m.table ix m.work order starts₀) where
  abbrev f : IndexedFed
  f = feed_indexed c m ix bytes

  abbrev a : Agreed c m.store m.table ix (take (length (records_of m.store)) order) starts₀
  a = h.agreed

  -- ---- refused

  pub told_refused : (n : ℕ) → refused n ≡ f.fed.answer → FedNextIndexed f (record { outcome = 2 ^ 63 + n; words = 0 }) f.fed.store f.fed.table
      f.index f.fed.events
  unfolding outcome_of words_told
  told_refused n e = record { outcome = ap outcome_of e; words = ap words_told e; room = omega arith; store = refl; table = refl; index = refl; events = refl }

  pub ready_refused : (n : ℕ) → refused n ≡ f.fed.answer → ReadyIndexed c f.fed.store f.fed.table f.index m.work order starts₀
  unfolding refused_feed RefusedLeaves
  ready_refused n e = let z = refused_leaves c m ix bytes n (sym e) in rw (z.0, z.1) h

  -- ---- accepted

  module _ (n : ℕ) (e : answered n ≡ f.fed.answer) where
    without : f.fed ≡ feed c m bytes
    unfolding AsWithout
    without = as_without_lem c m ix bytes a.agrees (λ (z : f.fed.answer ≡ refused 55). let y : ◌≡◌ {A = ℕ} 0 1 = cc in omega arith)

    pub told_room : 3 * n ≤ length f.fed.events
    unfolding words_told
    told_room = let t = (telling c m bytes).inside in omega (arith, rw (← without, ← e) at t)

    pub told_accepted : FedNextIndexed f (record { outcome = n; words = 3 * n }) f.fed.store f.fed.table f.index f.fed.events
    unfolding outcome_of words_told
    told_accepted = record { outcome = ap outcome_of e; words = ap words_told e; room = told_room; store = refl; table = refl; index = refl; events = refl }

    t : Taken c m ix bytes
    t = taken c m ix bytes n (sym e)

    r : Record
    r = t.own

    lying_store : State c m.store m.table
    lying_store = let l = lying c m.store m.table a.lent in record { store = l.store; table = l.table }

    ok : Passed c m r
    unfolding r
    ok = passed c m t.own (and_left _ _ (sym (room_passes c m ix t.own a.agrees) ∙ t.right))

    held : Holding c (r ∷ records_of m.store) m.store
    unfolding r
    held = accepting c m.store t.own lying_store.store (read_record_some bytes t.own t.read) ok.block ok.stored

    store_is : f.fed.store ≡ store_holding (r ∷ records_of m.store) m.store
    unfolding r accepted_indexed accepted_feed
    store_is = ap (λ (x : IndexedFed). x.fed.store) t.is

    records_are : records_of f.fed.store ≡ r ∷ records_of m.store
    records_are = ap records_of store_is ∙ held.records

    state : State c f.fed.store f.fed.table
    state = rw without (feed_keeps c m bytes lying_store).state

    pub laid : laid_out f.fed.store ≡ true
    laid = order_laid c f.fed.store state.store

    table_long : length f.fed.table ≡ length m.table
    table_long = rw without (feed_keeps c m bytes lying_store).table

    -- the new block stands at the end of what was used
    pub among : is_in (used_by (records_of m.store)) (sorted_positions (records_of f.fed.store)) ≡ true
    among =
        let p = position_in r (records_of m.store) in
        rw records_are (is_in_lem (used_by (records_of m.store)) _ p.0 (omega (arith, p.1.long, p.1.within)) p.1.own)

    blocks_are : blocks_of f.fed.store ≡ r.block ∷ blocks_of m.store
    unfolding blocks_of
    blocks_are = ap (map (λ x. x.block)) records_are

    agrees : index_agrees (blocks_of f.fed.store) f.index ≡ true
    unfolding StaysAgreed
    agrees = stays_agreed c m ix bytes lying_store.store a.agrees

    new_one : is_stored (records_of m.store) r.block.reference ≡ false
    new_one = checks_fresh c (records_of m.store) r.block ok.block

    -- what was known, of the positions of the store and the words worked out from it
    old_known : Known m.store (sorted_positions (records_of m.store)) (index_words (blocks_of m.store)) starts₀ (blocks_of m.store)
    old_known =
        subst (λ (p : List ℕ). Known m.store p (index_words (blocks_of m.store)) starts₀ (blocks_of m.store)) a.sorted.places
        (subst (λ (w : List ℕ). Known m.store (take (length (records_of m.store)) order) w starts₀ (blocks_of m.store))
        (used_words_lem (blocks_of m.store) ix a.agrees) a.known)

    module _ (bytes' : AllBytes f.fed.store) (order' starts : List ℕ)
        (noted : Noted (records_of f.fed.store) (used_by (records_of m.store)) (get_or ix 0 0) order' starts₀ starts) where
      noted_so : Noted (r ∷ records_of m.store) (used_by (records_of m.store)) (used_words (indexed (blocks_of m.store))) order' starts₀ starts
      noted_so = rw (records_are, agrees_used (blocks_of m.store) ix a.agrees) at noted

      long : length (sorted_positions (r ∷ records_of m.store)) ≤ length starts₀
      long =
          omega (
            arith,
            ap (λ (qs : List Record). length (sorted_positions qs)) (sym records_are),
            sorted_count f.fed.store laid,
            (in_order_lem c f.fed.store state.store).few,
            h.parts,
          )

      grown : Known f.fed.store (sorted_positions (r ∷ records_of m.store)) (index_words (r.block ∷ blocks_of m.store)) starts
          (r.block ∷ blocks_of m.store)
      grown =
          known_grown m.store f.fed.store r a.laid laid records_are new_one order' starts₀ starts noted_so old_known
          (new_stands r.block (blocks_of m.store) (runs_fit f.fed.store bytes' r.block (blocks_of m.store) blocks_are)) long

      known : Known f.fed.store (take (length (records_of f.fed.store)) order') (used_part f.index) starts (blocks_of f.fed.store)
      known = rw (noted.sorted, used_words_lem (blocks_of f.fed.store) f.index agrees, blocks_are, records_are) grown

      pub ready_accepted : length order' ≡ length order → ReadyIndexed c f.fed.store f.fed.table f.index m.work order' starts
      ready_accepted q =
          record {
            agreed =
                record {
                  lent = refuses_none c _ _ (lying c m.store m.table a.lent).committee state.store state.table;
                  laid = laid;
                  sorted = record { sound = a.sorted.sound; in_order = state.store; laid = laid; places = noted.sorted };
                  agrees = agrees;
                  known = known;
                };
            work = omega (arith, table_long, h.work);
            places = q ∙ h.places;
            parts = noted.put.long ∙ h.parts;
          }
