-- The claims, proved. Assumes nothing.
use mathlib.Core.Path.{◌≡◌, refl, sym, ap, ◌∙◌}
use mathlib.Core.Bool.{Bool, true, false}
use mathlib.Core.List.{List, ◌∷◌, append-nil}
use mathlib.Core.Option.{Option, none, some}
use Prim.Native.Nat.{ℕ}
use native.Mathlib.Omega.{arith}
use borrow.Author.Tests.{not-true}
use Rattle.base.specs.Lists.{pick, same}
use Rattle.base.specs.Le.{Bytes}
use Rattle.base.specs.Checks.{refusal, passes, refused}
use Rattle.base.proofs.Orders.{same_refl}
use Rattle.base.proofs.Tests.{and_left, and_right}
use Rattle.base.proofs.Checks.{refusal_append}
use Rattle.committee.specs.Committee.{Committee}
use Rattle.store_spec.specs.Layout.{Record, read_record}
use Rattle.store_spec.specs.Store.{records_of, store_holding}
use Rattle.store_spec.proofs.Store.{read_record_some}
use Rattle.feed_spec.specs.Feed.{Lent, feed_checks, refused_feed, accepted_feed, feed_record, feed}
use Rattle.feed_spec.proofs.Keeping.{Passed, passed}
use Rattle.final_spec.specs.Finality.{blocks_of}
use Rattle.index_spec.specs.Part.{part_in}
use Rattle.index_spec.specs.Index.{used_part, index_of, index_agrees, index_short, appended}
use Rattle.index_spec.proofs.Checking.{fed_index}
use Rattle.index_feed_spec.specs.IndexedFeed.{IndexedFed, room_checks, indexed_checks, refused_indexed, accepted_indexed, feed_indexed_record, feed_indexed}
use Rattle.index_feed_spec.specs.Claims.{AsWithout, RefusedLeaves, StaysAgreed, Claims}
use Rattle.index_feed_spec.proofs.Order.{agreed_refusal, room_refusal, room_passes}

-- what holds of every refusal and of every record that passes the checks holds of the feed
indexed_cases : (c : Committee) (m : Lent) (ix : List ℕ) (bytes : Bytes) (P : IndexedFed → Type 0)
    → ((n : ℕ) → P (refused_indexed m ix n))
    → ((r : Record) → read_record bytes ≡ some r → passes (indexed_checks c m ix (some r)) ≡ true → P (accepted_indexed c m ix r))
    → P (feed_indexed c m ix bytes)
unfolding feed_indexed feed_indexed_record
indexed_cases c m ix bytes P kept took = go (read_record bytes) refl
  where
    go : (o : Option Record) → read_record bytes ≡ o → P (feed_indexed_record c m ix o)
    go none e = kept _
    go (some r) e = by_checks (passes (indexed_checks c m ix (some r))) refl
      where
        by_checks : (t : Bool) → passes (indexed_checks c m ix (some r)) ≡ t → P
            (pick t (accepted_indexed c m ix r) (refused_indexed m ix (refusal (indexed_checks c m ix (some r)))))
        by_checks true p = took r e p
        by_checks false p = kept _

pub as_without_lem : AsWithout
unfolding AsWithout feed_indexed feed_indexed_record feed feed_record refused_indexed accepted_indexed refused_feed
as_without_lem c m ix bytes h f = go (read_record bytes) f
  where
    go : (o : Option Record) → ((feed_indexed_record c m ix o).fed.answer ≡ refused 55 → ⊥) → (feed_indexed_record c m ix o).fed ≡ feed_record c m o
    go none k = unfold room_checks in ap (refused_feed m) (agreed_refusal c m ix none h ∙ ap refusal (append-nil (feed_checks c m none)))
    go (some r) k = by_checks (passes (feed_checks c m (some r))) refl (index_short (r.block ∷ blocks_of m.store) ix) refl k
      where
        by_checks : (t : Bool) → passes (feed_checks c m (some r)) ≡ t → (s : Bool) → index_short (r.block ∷ blocks_of m.store) ix ≡ s
            → ((feed_indexed_record c m ix (some r)).fed.answer ≡ refused 55 → ⊥) → (feed_indexed_record c m ix (some r)).fed ≡ feed_record c m (some r)
        by_checks true p true q u = absurd (u (rw (room_passes c m ix r h, p, q, room_refusal c m ix r h p, q)))
        by_checks true p false q u = rw (room_passes c m ix r h, p, q)
        by_checks false p s q u = rw (
          room_passes c m ix r h,
          p,
          agreed_refusal c m ix (some r) h,
          refusal_append (feed_checks c m (some r))
              (room_checks m ix (some r)),
          p,
        )

pub refused_leaves : RefusedLeaves
unfolding RefusedLeaves refused_indexed accepted_indexed refused_feed accepted_feed
refused_leaves c m ix bytes n =
    indexed_cases c m ix bytes (λ o. o.fed.answer ≡ refused n → (o.fed ≡ refused_feed m n) × (o.index ≡ ix))
    (λ k e. let z : k ≡ n = cc in (ap (refused_feed m) z, refl))
    (λ r e p u. let z : ◌≡◌ {A = ℕ} 0 1 = cc in absurd (omega arith))

-- an index that is the one worked out afresh agrees
afresh_agrees : (s : Bytes) (ix : List ℕ) → used_part ix ≡ index_of s → index_agrees (blocks_of s) ix ≡ true
unfolding index_agrees index_of
afresh_agrees s ix e = ap (λ (ws : List ℕ). same ws (index_of s)) e ∙ same_refl (index_of s)

pub stays_agreed : StaysAgreed
unfolding StaysAgreed refused_indexed accepted_indexed refused_feed accepted_feed
stays_agreed c m ix bytes o h =
    indexed_cases c m ix bytes (λ x. index_agrees (blocks_of x.fed.store) x.index ≡ true) (λ n. h) grown
  where
    grown : (r : Record) → read_record bytes ≡ some r → passes (indexed_checks c m ix (some r)) ≡ true
        → index_agrees (blocks_of (store_holding (r ∷ records_of m.store) m.store))
        (appended ix (part_in (r.block ∷ blocks_of m.store) r.block.reference)) ≡ true
    grown r e p =
        let q = sym (room_passes c m ix r h) ∙ p in
        let a : Passed c m r = passed c m r (and_left (passes (feed_checks c m (some r))) _ q) in
        let k = not-true (index_short (r.block ∷ blocks_of m.store) ix) (and_right (passes (feed_checks c m (some r))) _ q) in
        let s : Bytes = store_holding (r ∷ records_of m.store) m.store in
        afresh_agrees s _ (fed_index c m.store r ix o (read_record_some bytes r e) a.block a.stored h k)

pub claimed : Claims
claimed = record { as_without = as_without_lem; refused = refused_leaves; agreed = stays_agreed }
