-- Where no events slice runs out, it does not matter which one is lent. Assumes nothing.
use mathlib.Core.Path.{◌≡◌, refl, ap, ◌∙◌}
use mathlib.Core.Bool.{Bool, true, false}
use mathlib.Core.List.{List, [], ◌∷◌, ◌++◌, append_assoc}
use mathlib.Core.Option.{Option, none, some}
use Prim.Native.Nat.{ℕ, ◌+◌, ◌^◌}
use native.Mathlib.Omega.{arith}
use lib.Dec.{eqb, ltb}
use lib.ListN.{length, drop}
use borrow.Author.Tests.{eq-eqb}
use Rattle.base.specs.Lists.{pick, any_of, all_of}
use Rattle.base.specs.Le.{Bytes}
use Rattle.base.specs.Checks.{Check, ◌⇒◌, refusal, passes, refused}
use Rattle.base.proofs.Tests.{not_both, fails, or_left, or_right}
use Rattle.base.proofs.Refusals.{passes_zero}
use Rattle.committee.specs.Committee.{Committee}
use Rattle.record_spec.specs.Block.{event_room}
use Rattle.store_spec.specs.Layout.{Record, read_record}
use Rattle.store_spec.specs.Store.{store_full}
use Rattle.pending_spec.specs.Table.{room}
use Rattle.feed_spec.specs.Feed.{Lent, lent_of, Fed, processed, lent_checks, rule_checks, accept_checks, record_checks, feed_checks, refused_feed}
use Rattle.feed_spec.specs.Feed.{accepted_feed}
use Rattle.feed_spec.specs.Feed.{feed_record, feed}
use Rattle.feed_many.specs.Records.{outcome_of, words_told, FedAll, feed_all}
use Rattle.feed_many_theorems.specs.Claims.{ran_out, SameFeeds}

-- checks that differ in whether 15 applies, where it refuses neither
abbrev Same : List Check → List Check → Type 0
Same ks ls = (passes ks ≡ passes ls) × (refusal ks ≡ refusal ls)

beside : (ps qs : List Check) (a b : Bool) → (refusal (ps ++ ((a ⇒ 15) ∷ qs)) ≡ 15 → ⊥) → (refusal (ps ++ ((b ⇒ 15) ∷ qs)) ≡ 15 → ⊥)
    → Same (ps ++ ((a ⇒ 15) ∷ qs)) (ps ++ ((b ⇒ 15) ∷ qs))
unfolding refusal passes all_of
beside [] qs true b h k = absurd (h refl)
beside [] qs false true h k = absurd (k refl)
beside [] qs false false h k = (refl, refl)
beside (p ∷ ps) qs a b h k = go p.applies refl (λ h k. beside ps qs a b h k)
  where
    go : (t : Bool) → p.applies ≡ t
        → ((refusal (ps ++ ((a ⇒ 15) ∷ qs)) ≡ 15 → ⊥) → (refusal (ps ++ ((b ⇒ 15) ∷ qs)) ≡ 15 → ⊥) → Same (ps ++ ((a ⇒ 15) ∷ qs)) (ps ++ ((b ⇒ 15) ∷ qs)))
        → Same (p ∷ ps ++ ((a ⇒ 15) ∷ qs)) (p ∷ ps ++ ((b ⇒ 15) ∷ qs))
    go true e ih = rw e (refl, refl)
    go false e ih = rw e (ih (rw e at h) (rw e at k))

record SameFed (f g : Fed) : Type 0 where
  answer : f.answer ≡ g.answer
  store : f.store ≡ g.store
  table : f.table ≡ g.table

-- the checks of a record around 15
around : (c : Committee) (m : Lent) (r : Record) → feed_checks c m (some r)
    ≡ (lent_checks c m ++ rule_checks c m.store (some r))
    ++ ((ltb (length m.events) (event_room r.block) ⇒ 15) ∷ (store_full m.store r ⇒ 13) ∷ (ltb (room m.table) (processed c m r).most ⇒ 14) ∷ [])
unfolding feed_checks record_checks accept_checks
around c m r = simp append_assoc

not_fifteen : (c : Committee) (m : Lent) (r : Record) → ((feed_record c m (some r)).answer ≡ refused 15 → ⊥) → refusal (feed_checks c m (some r)) ≡ 15 → ⊥
unfolding feed_record refused_feed
not_fifteen c m r h e =
    h (rw (fails (passes (feed_checks c m (some r))) (λ p. let z = passes_zero (feed_checks c m (some r)) p in omega (arith, e, z))) (ap refused e))

module _ (c : Committee) (s : Bytes) (t w v u : List ℕ) where
  checks_any : (r : Record) → (refusal (feed_checks c (lent_of s t w v) (some r)) ≡ 15 → ⊥) → (refusal (feed_checks c (lent_of s t w u) (some r)) ≡ 15 → ⊥)
      → Same (feed_checks c (lent_of s t w v) (some r)) (feed_checks c (lent_of s t w u) (some r))
  unfolding lent_checks processed
  checks_any r h k =
      rw (around c (lent_of s t w v) r, around c (lent_of s t w u) r)
      (beside (lent_checks c (lent_of s t w v) ++ rule_checks c s (some r)) _ (ltb (length v) (event_room r.block)) (ltb (length u) (event_room r.block))
      (rw (around c (lent_of s t w v) r) at h) (rw (around c (lent_of s t w u) r) at k))

  feed_any : (bytes : Bytes) → ((feed c (lent_of s t w v) bytes).answer ≡ refused 15 → ⊥) → ((feed c (lent_of s t w u) bytes).answer ≡ refused 15 → ⊥)
      → SameFed (feed c (lent_of s t w v) bytes) (feed c (lent_of s t w u) bytes)
  unfolding feed feed_record feed_checks lent_checks record_checks accept_checks processed refused_feed accepted_feed
  feed_any bytes h k = by (read_record bytes) h k
    where
      by : (o : Option Record) → ((feed_record c (lent_of s t w v) o).answer ≡ refused 15 → ⊥) → ((feed_record c (lent_of s t w u) o).answer ≡ refused 15 → ⊥)
          → SameFed (feed_record c (lent_of s t w v) o) (feed_record c (lent_of s t w u) o)
      by none h k = record { answer = refl; store = refl; table = refl }
      by (some r) h k =
          let e = checks_any r (not_fifteen c (lent_of s t w v) r h) (not_fifteen c (lent_of s t w u) r k) in
          rw (e.0, e.1) (go (passes (feed_checks c (lent_of s t w u) (some r))))
        where
          go : (b : Bool) → SameFed
              (pick b (accepted_feed c (lent_of s t w v) r) (refused_feed (lent_of s t w v) (refusal (feed_checks c (lent_of s t w u) (some r)))))
              (pick b (accepted_feed c (lent_of s t w u) r) (refused_feed (lent_of s t w u) (refusal (feed_checks c (lent_of s t w u) (some r)))))
          go true = record { answer = refl; store = refl; table = refl }
          go false = record { answer = refl; store = refl; table = refl }

-- what did not run out
first_not : (c : Committee) (m : Lent) (r : Bytes) (rs : List Bytes) → ran_out (feed_all c m (r ∷ rs)).outcomes ≡ false → (feed c m r).answer ≡ refused 15 → ⊥
unfolding ran_out any_of feed_all outcome_of
first_not c m r rs h e =
    not_both (or_left (eqb (outcome_of (feed c m r).answer) (2 ^ 63 + 15)) _ (eq-eqb (outcome_of (feed c m r).answer) (2 ^ 63 + 15) (ap outcome_of e))) h

others_not : (c : Committee) (m : Lent) (r : Bytes) (rs : List Bytes) → ran_out (feed_all c m (r ∷ rs)).outcomes ≡ false
    → ran_out (feed_all c (lent_of (feed c m r).store (feed c m r).table m.work (drop (words_told (feed c m r).answer) (feed c m r).events)) rs).outcomes
    ≡ false
unfolding ran_out any_of feed_all
others_not c m r rs h = fails _ (λ k. not_both (or_right (eqb (outcome_of (feed c m r).answer) (2 ^ 63 + 15)) _ k) h)

pub all_any : (c : Committee) (s : Bytes) (t w v u : List ℕ) (rs : List Bytes)
    → ran_out (feed_all c (lent_of s t w v) rs).outcomes ≡ false → ran_out (feed_all c (lent_of s t w u) rs).outcomes ≡ false
    → SameFeeds (feed_all c (lent_of s t w v) rs) (feed_all c (lent_of s t w u) rs)
unfolding feed_all
all_any c s t w v u [] h k = record { outcomes = refl; store = refl; table = refl }
all_any c s t w v u (r ∷ rs) h k =
    let m : Lent = lent_of s t w v in
    let l : Lent = lent_of s t w u in
    let e : SameFed (feed c m r) (feed c l r) = feed_any c s t w v u r (first_not c m r rs h) (first_not c l r rs k) in
    let rest : List ℕ = drop (words_told (feed c m r).answer) (feed c m r).events in
    let moved : feed_all c (lent_of (feed c m r).store (feed c m r).table w rest) rs ≡ feed_all c (lent_of (feed c l r).store (feed c l r).table w rest) rs =
    rw (e.store, e.table) in
    let ih =
    all_any c (feed c l r).store (feed c l r).table w rest (drop (words_told (feed c l r).answer) (feed c l r).events) rs
    (rw (e.store, e.table) at (others_not c m r rs h)) (others_not c l r rs k)
    in
    record {
      outcomes = rw (e.store, e.table, ih.outcomes, e.answer);
      store = ap (λ (x : FedAll). x.store) moved ∙ ih.store;
      table = ap (λ (x : FedAll). x.table) moved ∙ ih.table;
    }
