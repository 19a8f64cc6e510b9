-- The call: its refusals, and what it leaves where none applies. Assumes nothing.
use mathlib.Core.Path.{◌≡◌, refl, sym, ap, ◌∙◌}
use mathlib.Core.List.{List, [], ◌∷◌}
use Prim.Native.Nat.{ℕ, ◌≤◌, ◌<◌}
use lib.Dec.{ltb, lit<}
use lib.ListN.{length}
use borrow.Author.Tests.{lt-ltb, le-ltb}
use Rattle.base.specs.Le.{Bytes}
use Rattle.base.specs.Checks.{◌⇒◌, refusal, passes, Answer, refused, answered}
use Rattle.base.proofs.Tests.{fails}
use Rattle.base.proofs.Lists.{none_of, and, every_append}
use Rattle.base.proofs.Refusals.{Numbered, zero_passes, passes_zero, refusal_first, refusal_then}
use Rattle.committee.specs.Committee.{Committee}
use Rattle.feed_spec.specs.Pending.{pending_checks}
use Rattle.feed_spec.specs.Feed.{Lent}
use Rattle.feed_spec.proofs.Checks.{pending_numbered}
use Rattle.feed_frames.specs.Frames.{records_in}
use Rattle.index_feed_spec.specs.IndexedFeed.{indexed_lent_checks}
use Rattle.index_feed_many.specs.Records.{feed_all_indexed, indexed_records_checks, refused_indexed_call, fed_indexed_call, feed_records_indexed}
use Rattle.index_feed_many.specs.Step.{FedEachIndexed}

module _ (c : Committee) (m : Lent) (ix o : List ℕ) (rs : List Bytes) where
  lent_numbered : Numbered (indexed_lent_checks c m.store m.table ix)
  unfolding indexed_lent_checks
  lent_numbered = every_append (pending_checks c m.store m.table) _ (pending_numbered c m.store m.table) (and (lit< tt) none_of)

  numbered : Numbered (indexed_records_checks c m ix o rs)
  unfolding indexed_records_checks
  numbered = every_append (indexed_lent_checks c m.store m.table ix) _ lent_numbered (and (lit< tt) (and (lit< tt) none_of))

  pub refuses_lent : (refusal (indexed_lent_checks c m.store m.table ix) ≡ 0 → ⊥)
      → refusal (indexed_records_checks c m ix o rs) ≡ refusal (indexed_lent_checks c m.store m.table ix)
  unfolding indexed_records_checks
  refuses_lent h = refusal_first (indexed_lent_checks c m.store m.table ix) _ h

  module _ (h : refusal (indexed_lent_checks c m.store m.table ix) ≡ 0) where
    after_lent : refusal (indexed_records_checks c m ix o rs)
        ≡ refusal ((ltb (length m.work) (length m.table) ⇒ 12) ∷ (ltb (length o) (length rs) ⇒ 64) ∷ [])
    unfolding indexed_records_checks
    after_lent = refusal_then (indexed_lent_checks c m.store m.table ix) _ lent_numbered h

    pub refuses_work : length m.work < length m.table → refusal (indexed_records_checks c m ix o rs) ≡ 12
    unfolding refusal
    refuses_work l = after_lent ∙ rw (lt-ltb (length m.work) (length m.table) l)

    pub refuses_outcomes : length m.table ≤ length m.work → length o < length rs → refusal (indexed_records_checks c m ix o rs) ≡ 64
    unfolding refusal
    refuses_outcomes k l = after_lent ∙ rw (le-ltb (length m.work) (length m.table) k, lt-ltb (length o) (length rs) l)

    pub refuses_nothing : length m.table ≤ length m.work → length rs ≤ length o → refusal (indexed_records_checks c m ix o rs) ≡ 0
    unfolding refusal
    refuses_nothing k l = after_lent ∙ rw (le-ltb (length m.work) (length m.table) k, le-ltb (length o) (length rs) l)

module _ (c : Committee) (m : Lent) (ix o : List ℕ) (bytes : Bytes) where
  call_refuses : (n : ℕ) → n ≡ refusal (indexed_records_checks c m ix o (records_in bytes)) → (n ≡ 0 → ⊥) → feed_records_indexed c m ix o bytes ≡
      refused_indexed_call m ix o n
  unfolding feed_records_indexed
  call_refuses n e f =
      rw (fails (passes (indexed_records_checks c m ix o (records_in bytes))) (λ p. f (e ∙ passes_zero _ p))) (ap (refused_indexed_call m ix o) (sym e))

  pub call_feeds : refusal (indexed_records_checks c m ix o (records_in bytes)) ≡ 0 → feed_records_indexed c m ix o bytes ≡ fed_indexed_call o
      (feed_all_indexed c m ix (records_in bytes))
  unfolding feed_records_indexed
  call_feeds z = rw (zero_passes _ (numbered c m ix o (records_in bytes)) z)

  -- the answer and the slices are those of the definition
  abbrev Calls : Answer ℕ → Bytes → List ℕ → List ℕ → List ℕ → List ℕ → Type 0
  Calls a s t i v o' =
      (a ≡ (feed_records_indexed c m ix o bytes).answer)
      × ((s ≡ (feed_records_indexed c m ix o bytes).store)
      × ((t ≡ (feed_records_indexed c m ix o bytes).table)
      × ((i ≡ (feed_records_indexed c m ix o bytes).index)
      × ((v ≡ (feed_records_indexed c m ix o bytes).events) × (o' ≡ (feed_records_indexed c m ix o bytes).outcomes)))))

  pub calls_refusal : (n : ℕ) → n ≡ refusal (indexed_records_checks c m ix o (records_in bytes)) → (n ≡ 0 → ⊥)
      → Calls (refused n) m.store m.table ix m.events o
  unfolding refused_indexed_call
  calls_refusal n e f = rw (call_refuses n e f) (refl, (refl, (refl, (refl, (refl, refl)))))

  pub calls_feeds : (n : ℕ) (s : Bytes) (t i v o' : List ℕ) → refusal (indexed_records_checks c m ix o (records_in bytes)) ≡ 0
      → FedEachIndexed (feed_all_indexed c m ix (records_in bytes)) o n s t i v o' → Calls (answered n) s t i v o'
  unfolding fed_indexed_call
  calls_feeds n s t i v o' z f = rw (call_feeds z) (ap answered f.number, (f.store, (f.table, (f.index, (f.events, f.outcomes)))))
