-- Records fed with the index in two calls. Assumes nothing.
use mathlib.Core.Path.{◌≡◌, refl, sym, ap, ◌∙◌}
use mathlib.Core.Bool.{true, false}
use mathlib.Core.List.{List, [], ◌∷◌, ◌++◌, append_assoc}
use Prim.Native.Nat.{ℕ, ◌+◌, ◌^◌, ◌<◌}
use native.Mathlib.Omega.{arith}
use lib.ListN.{length, take, drop, length-drop}
use lib.Seq.{length-take-le, take-append-add, drop-append-add}
use Rattle.base.specs.Lists.{sum_of}
use Rattle.base.specs.Le.{Bytes}
use Rattle.base.specs.Checks.{Answer, refused, answered}
use Rattle.committee.specs.Committee.{Committee, broken}
use Rattle.final_spec.specs.Finality.{blocks_of}
use Rattle.feed_spec.specs.Feed.{Lent, lent_of, refused_feed}
use Rattle.feed_spec.proofs.Keeping.{State, feed_keeps}
use Rattle.index_spec.specs.Index.{index_agrees}
use Rattle.index_feed_spec.specs.IndexedFeed.{feed_indexed}
use Rattle.index_feed_spec.specs.Claims.{AsWithout, RefusedLeaves, StaysAgreed}
use Rattle.index_feed_spec.proofs.Claimed.{as_without_lem, refused_leaves, stays_agreed}
use Rattle.feed_many.specs.Records.{outcome_of, words_told}
use Rattle.feed_many_theorems.specs.Claims.{words_of_all}
use Rattle.feed_many.proofs.Telling.{Telling, telling_refused, telling}
use Rattle.index_feed_many.specs.Records.{feed_all_indexed}

-- none of 5, 10, 11, 54 applies
pub record Agreeing (c : Committee) (s : Bytes) (t ix : List ℕ) : Type 0 where
  pub committee : broken c ≡ false
  pub state : State c s t
  pub agrees : index_agrees (blocks_of s) ix ≡ true

-- what the next record is lent, and the index that it finds
abbrev pub onward : Committee → Lent → List ℕ → Bytes → Lent
onward c m ix r =
    lent_of (feed_indexed c m ix r).fed.store (feed_indexed c m ix r).fed.table m.work
    (drop (words_told (feed_indexed c m ix r).fed.answer) (feed_indexed c m ix r).fed.events)

abbrev next : Committee → Lent → List ℕ → Bytes → List ℕ
next c m ix r = (feed_indexed c m ix r).index

module _ (c : Committee) (m : Lent) (ix : List ℕ) (bytes : Bytes) (k : Agreeing c m.store m.table ix) where
  kept : State c (feed_indexed c m ix bytes).fed.store (feed_indexed c m ix bytes).fed.table ×
      (length (feed_indexed c m ix bytes).fed.table ≡ length m.table)
  unfolding AsWithout RefusedLeaves refused_feed
  kept = go (feed_indexed c m ix bytes).fed.answer refl
    where
      go : (x : Answer ℕ) → (feed_indexed c m ix bytes).fed.answer ≡ x
          → State c (feed_indexed c m ix bytes).fed.store (feed_indexed c m ix bytes).fed.table ×
          (length (feed_indexed c m ix bytes).fed.table ≡ length m.table)
      go (refused n) e = rw (refused_leaves c m ix bytes n e).0 (k.state, refl)
      go (answered n) e =
          let f = feed_keeps c m bytes k.state in
          rw (as_without_lem c m ix bytes k.agrees (λ (z : (feed_indexed c m ix bytes).fed.answer ≡ refused 55). let y : ◌≡◌ {A = ℕ} 0 1 = cc in omega arith))
          (f.state, f.table)

  -- a feed leaves memory in order, and an index that agrees
  pub agreeing_fed : Agreeing c (feed_indexed c m ix bytes).fed.store (feed_indexed c m ix bytes).fed.table (feed_indexed c m ix bytes).index
  unfolding StaysAgreed
  agreeing_fed =
      record {
        committee = k.committee;
        state = kept.0;
        agrees = stays_agreed c m ix bytes k.state.store k.agrees;
      }

  -- its events are told as those of a feed without the index
  told : Telling m (feed_indexed c m ix bytes).fed
  unfolding AsWithout RefusedLeaves
  told = go (feed_indexed c m ix bytes).fed.answer refl
    where
      go : (x : Answer ℕ) → (feed_indexed c m ix bytes).fed.answer ≡ x → Telling m (feed_indexed c m ix bytes).fed
      go (refused n) e = rw (refused_leaves c m ix bytes n e).0 (telling_refused m n)
      go (answered n) e =
          rw (as_without_lem c m ix bytes k.agrees (λ (z : (feed_indexed c m ix bytes).fed.answer ≡ refused 55). let y : ◌≡◌ {A = ℕ} 0 1 = cc in omega arith))
          (telling c m bytes)

pub all_agreeing : (c : Committee) (m : Lent) (ix : List ℕ) (rs : List Bytes) → Agreeing c m.store m.table ix
    → Agreeing c (feed_all_indexed c m ix rs).store (feed_all_indexed c m ix rs).table (feed_all_indexed c m ix rs).index
unfolding feed_all_indexed
all_agreeing c m ix [] k = k
all_agreeing c m ix (r ∷ rs) k = all_agreeing c (onward c m ix r) (next c m ix r) rs (agreeing_fed c m ix r k)

pub all_table : (c : Committee) (m : Lent) (ix : List ℕ) (rs : List Bytes) → Agreeing c m.store m.table ix
    → length (feed_all_indexed c m ix rs).table ≡ length m.table
unfolding feed_all_indexed
all_table c m ix [] k = refl
all_table c m ix (r ∷ rs) k = all_table c (onward c m ix r) (next c m ix r) rs (agreeing_fed c m ix r k) ∙ (kept c m ix r k).1

pub all_many : (c : Committee) (m : Lent) (ix : List ℕ) (rs : List Bytes) → length (feed_all_indexed c m ix rs).outcomes ≡ length rs
unfolding feed_all_indexed
all_many c m ix [] = refl
all_many c m ix (r ∷ rs) = omega (arith, all_many c (onward c m ix r) (next c m ix r) rs)

-- ---- the feeds of two lists of records

-- what is lent to the records after some others
abbrev pub after : Committee → Lent → List ℕ → List Bytes → Lent
after c m ix rs =
    lent_of (feed_all_indexed c m ix rs).store (feed_all_indexed c m ix rs).table m.work
    (drop (words_of_all (feed_all_indexed c m ix rs).outcomes) (feed_all_indexed c m ix rs).events)

pub record Parted (c : Committee) (m : Lent) (ix : List ℕ) (rs qs : List Bytes) : Type 0 where
  pub outcomes : (feed_all_indexed c m ix (rs ++ qs)).outcomes
      ≡ (feed_all_indexed c m ix rs).outcomes ++ (feed_all_indexed c (after c m ix rs) (feed_all_indexed c m ix rs).index qs).outcomes
  pub store : (feed_all_indexed c m ix (rs ++ qs)).store ≡ (feed_all_indexed c (after c m ix rs) (feed_all_indexed c m ix rs).index qs).store
  pub table : (feed_all_indexed c m ix (rs ++ qs)).table ≡ (feed_all_indexed c (after c m ix rs) (feed_all_indexed c m ix rs).index qs).table
  pub index : (feed_all_indexed c m ix (rs ++ qs)).index ≡ (feed_all_indexed c (after c m ix rs) (feed_all_indexed c m ix rs).index qs).index
  pub events : (feed_all_indexed c m ix (rs ++ qs)).events
      ≡ take (words_of_all (feed_all_indexed c m ix rs).outcomes) (feed_all_indexed c m ix rs).events
      ++ (feed_all_indexed c (after c m ix rs) (feed_all_indexed c m ix rs).index qs).events

module _ (c : Committee) (m : Lent) (ix : List ℕ) (r : Bytes) (rs : List Bytes) (k : Agreeing c m.store m.table ix) (l : length m.events < 2 ^ 63)
  where
    abbrev n : ℕ
    n = words_told (feed_indexed c m ix r).fed.answer

    abbrev those : List ℕ
    those = (feed_all_indexed c (onward c m ix r) (next c m ix r) rs).outcomes

    -- the words of the first record's events, and of the others'
    words_on : words_of_all (feed_all_indexed c m ix (r ∷ rs)).outcomes ≡ n + words_of_all those
    unfolding feed_all_indexed words_of_all sum_of
    words_on = rw ((told c m ix r k).told l)

    front : length (take n (feed_indexed c m ix r).fed.events) ≡ n
    front = length-take-le n (feed_indexed c m ix r).fed.events (told c m ix r k).inside

    rest_on : drop (words_of_all (feed_all_indexed c m ix (r ∷ rs)).outcomes) (feed_all_indexed c m ix (r ∷ rs)).events
        ≡ drop (words_of_all those) (feed_all_indexed c (onward c m ix r) (next c m ix r) rs).events
    rest_on =
        rw words_on
        (unfold feed_all_indexed in
        rw front at (drop-append-add (take n (feed_indexed c m ix r).fed.events) (feed_all_indexed c (onward c m ix r) (next c m ix r) rs).events
        (words_of_all those)))

    front_on : take (words_of_all (feed_all_indexed c m ix (r ∷ rs)).outcomes) (feed_all_indexed c m ix (r ∷ rs)).events
        ≡ take n (feed_indexed c m ix r).fed.events ++ take (words_of_all those) (feed_all_indexed c (onward c m ix r) (next c m ix r) rs).events
    front_on =
        rw words_on
        (unfold feed_all_indexed in
        rw front at (take-append-add (take n (feed_indexed c m ix r).fed.events) (feed_all_indexed c (onward c m ix r) (next c m ix r) rs).events
        (words_of_all those)))

    -- what the records after these are lent
    after_on : after c m ix (r ∷ rs) ≡ after c (onward c m ix r) (next c m ix r) rs
    after_on = rw rest_on (unfold feed_all_indexed in refl)

    shorter : length (onward c m ix r).events < 2 ^ 63
    shorter = omega (arith, l, (told c m ix r k).kept, length-drop n (feed_indexed c m ix r).fed.events)

pub parted : (c : Committee) (m : Lent) (ix : List ℕ) (rs qs : List Bytes) → Agreeing c m.store m.table ix → length m.events < 2 ^ 63 → Parted c m ix
    rs qs
unfolding feed_all_indexed words_of_all sum_of
parted c m ix [] qs k l = record { outcomes = refl; store = refl; table = refl; index = refl; events = refl }
parted c m ix (r ∷ rs) qs k l =
    let ih = parted c (onward c m ix r) (next c m ix r) rs qs (agreeing_fed c m ix r k) (shorter c m ix r rs k l) in
    let e = after_on c m ix r rs k l in
    let last = (feed_all_indexed c (onward c m ix r) (next c m ix r) rs).index in
    record {
      outcomes = ap (λ (x : List ℕ). outcome_of (feed_indexed c m ix r).fed.answer ∷ x) ih.outcomes
          ∙ ap (λ (x : Lent). outcome_of (feed_indexed c m ix r).fed.answer ∷ (feed_all_indexed c (onward c m ix r) (next c m ix r) rs).outcomes ++
          (feed_all_indexed c x last qs).outcomes) (sym e);
      store = ih.store ∙ ap (λ (x : Lent). (feed_all_indexed c x last qs).store) (sym e);
      table = ih.table ∙ ap (λ (x : Lent). (feed_all_indexed c x last qs).table) (sym e);
      index = ih.index ∙ ap (λ (x : Lent). (feed_all_indexed c x last qs).index) (sym e);
      events = ap (λ (x : List ℕ). take (words_told (feed_indexed c m ix r).fed.answer) (feed_indexed c m ix r).fed.events ++ x) ih.events
          ∙ sym (append_assoc (take (words_told (feed_indexed c m ix r).fed.answer) (feed_indexed c m ix r).fed.events) _ _)
          ∙ ap (λ (x : List ℕ). x ++ (feed_all_indexed c (after c (onward c m ix r) (next c m ix r) rs) last qs).events) (sym (front_on c m ix r rs k l))
          ∙ ap (λ (x : Lent). take (words_of_all (feed_all_indexed c m ix (r ∷ rs)).outcomes) (feed_all_indexed c m ix (r ∷ rs)).events
          ++ (feed_all_indexed c x last
          qs).events) (sym e);
    }
