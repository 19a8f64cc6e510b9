-- What a feed with the index gives in each case: its answer and each slice. Assumes nothing.
use mathlib.Core.Path.{◌≡◌, refl, sym, ap, ◌∙◌}
use mathlib.Core.Bool.{true, false}
use mathlib.Core.List.{List, [], ◌∷◌}
use mathlib.Core.Option.{Option, none, some}
use Prim.Native.Nat.{ℕ}
use native.Mathlib.Omega.{arith}
use Rattle.base.specs.Le.{Bytes}
use Rattle.base.specs.Checks.{refusal, passes, Answer, refused, answered}
use Rattle.base.proofs.Tests.{fails}
use Rattle.base.proofs.Refusals.{passes_zero}
use Rattle.committee.specs.Committee.{Committee}
use Rattle.record_spec.specs.Record.{well_formed, block_in}
use Rattle.store_spec.specs.Layout.{Record, read_record}
use Rattle.store_spec.specs.Store.{record_in}
use Rattle.feed_spec.specs.Feed.{Lent, lent_of, processed, feed_checks, refused_feed, accepted_feed}
use Rattle.feed_spec.proofs.Checks.{read_some}
use Rattle.final_spec.specs.Finality.{blocks_of}
use Rattle.feed_single.specs.Accepted.{AcceptedAs}
use Rattle.feed_refusals.proofs.Order.{checks_pass}
use Rattle.index_spec.specs.Index.{index_agrees, index_short, appended}
use Rattle.index_growth.specs.Growing.{new_part}
use Rattle.index_feed_spec.specs.IndexedFeed.{indexed_checks, refused_indexed, accepted_indexed, feed_indexed_record, feed_indexed}
use Rattle.index_feed_spec.proofs.Order.{record-refuses, room_refusal, room_passes}

module _ (c : Committee) (m : Lent) (ix : List ℕ) (bytes : Bytes) where
  -- the answer, the store, the table, the index and the events are those of the definition
  abbrev pub Gives : Answer ℕ → Bytes → List ℕ → List ℕ → List ℕ → Type 0
  Gives a s t i v =
      (a ≡ (feed_indexed c m ix bytes).fed.answer)
      × ((s ≡ (feed_indexed c m ix bytes).fed.store)
      × ((t ≡ (feed_indexed c m ix bytes).fed.table) × ((i ≡ (feed_indexed c m ix bytes).index) × (v ≡ (feed_indexed c m ix bytes).fed.events))))

  refuses : (n : ℕ) → n ≡ refusal (indexed_checks c m ix (read_record bytes)) → (n ≡ 0 → ⊥) → feed_indexed c m ix bytes ≡ refused_indexed m ix n
  unfolding feed_indexed feed_indexed_record
  refuses n e f = go (read_record bytes) e
    where
      go : (o : Option Record) → n ≡ refusal (indexed_checks c m ix o) → feed_indexed_record c m ix o ≡ refused_indexed m ix n
      go none z = ap (refused_indexed m ix) (sym z)
      go (some r) z = rw (fails (passes (indexed_checks c m ix (some r))) (λ p. f (z ∙ passes_zero _ p))) (ap (refused_indexed m ix) (sym z))

  pub gives_refusal : (n : ℕ) → n ≡ refusal (indexed_checks c m ix (read_record bytes)) → (n ≡ 0 → ⊥) → Gives (refused n) m.store m.table ix m.events
  unfolding refused_indexed refused_feed
  gives_refusal n e f = rw (refuses n e f) (refl, (refl, (refl, (refl, refl))))

  module _ (h : index_agrees (blocks_of m.store) ix ≡ true) where
    -- 12, 20 to 30, 15, 13, 14
    pub gives_record : (n : ℕ) → n ≡ refusal (feed_checks c m (read_record bytes)) → (n ≡ 0 → ⊥) → Gives (refused n) m.store m.table ix m.events
    gives_record n e f = gives_refusal n (e ∙ sym (record-refuses c m ix (read_record bytes) h (λ z. f (e ∙ z)))) f

    module _ (w : well_formed bytes ≡ true) (z : refusal (feed_checks c m (read_record bytes)) ≡ 0) where
      passing : passes (feed_checks c m (some (record_in bytes))) ≡ true
      passing = checks_pass c m bytes w z

      -- 55
      pub gives_short : index_short (block_in bytes ∷ blocks_of m.store) ix ≡ true → Gives (refused 55) m.store m.table ix m.events
      unfolding record_in
      gives_short k =
          gives_refusal 55 (sym (ap (λ (o : Option Record). refusal (indexed_checks c m ix o)) (read_some bytes w) ∙ room_refusal c m ix (record_in bytes) h
          passing ∙ rw k))
          (λ (y : ◌≡◌ {A = ℕ} 55 0). absurd (omega arith))

      -- accepted
      pub gives_acceptance : index_short (block_in bytes ∷ blocks_of m.store) ix ≡ false → (n : ℕ) (s : Bytes) (t i v : List ℕ)
          → AcceptedAs (accepted_feed c (lent_of m.store m.table [] m.events) (record_in bytes)) n s t v
          → i ≡ appended ix (new_part m.store bytes) → Gives (answered n) s t i v
      unfolding feed_indexed feed_indexed_record accepted_indexed accepted_feed processed record_in new_part
      gives_acceptance k n s t i v a e =
          rw (read_some bytes w, room_passes c m ix (record_in bytes) h, passing, k)
          (a.answer, (a.store, (a.table, (e, a.events))))
