-- The call: its refusals, and what it leaves where none applies. Assumes nothing.
use mathlib.Core.Path.{◌≡◌, refl, sym, ap, ◌∙◌}
use mathlib.Core.List.{List, [], ◌∷◌, append_assoc}
use Prim.Native.Nat.{ℕ, ◌≤◌, ◌<◌}
use lib.Dec.{ltb, lit<}
use lib.ListN.{length}
use borrow.Author.Tests.{lt-ltb, le-ltb}
use Rattle.base.specs.Le.{Bytes}
use Rattle.base.specs.Checks.{◌⇒◌, refusal, passes, Answer, refused, answered}
use Rattle.base.proofs.Tests.{fails}
use Rattle.base.proofs.Lists.{none_of, and, every_append}
use Rattle.base.proofs.Refusals.{Numbered, zero_passes, passes_zero, refusal_first, refusal_then}
use Rattle.committee.specs.Committee.{Committee}
use Rattle.feed_spec.specs.Pending.{pending_checks}
use Rattle.feed_spec.specs.Feed.{Lent, lent_checks}
use Rattle.feed_spec.proofs.Checks.{pending_numbered}
use Rattle.feed_frames.specs.Frames.{records_in}
use Rattle.feed_many.specs.Records.{feed_all, records_checks, refused_call, fed_call, feed_records}
use Rattle.feed_many.specs.Step.{FedEach}

module _ (c : Committee) (m : Lent) (o : List ℕ) (rs : List Bytes) where
  numbered : Numbered (records_checks c m o rs)
  unfolding records_checks lent_checks
  numbered =
      every_append (lent_checks c m) _
      (every_append (pending_checks c m.store m.table) _ (pending_numbered c m.store m.table) (and (lit< tt) none_of))
      (and (lit< tt) none_of)

  pub refuses_lent : (refusal (pending_checks c m.store m.table) ≡ 0 → ⊥)
      → refusal (records_checks c m o rs) ≡ refusal (pending_checks c m.store m.table)
  unfolding records_checks lent_checks
  refuses_lent h = rw (append_assoc (pending_checks c m.store m.table)) (refusal_first (pending_checks c m.store m.table) _ h)

  module _ (h : refusal (pending_checks c m.store m.table) ≡ 0) where
    after_lent : refusal (records_checks c m o rs)
        ≡ refusal ((ltb (length m.work) (length m.table) ⇒ 12) ∷ (ltb (length o) (length rs) ⇒ 64) ∷ [])
    unfolding records_checks lent_checks
    after_lent =
        rw (append_assoc (pending_checks c m.store m.table))
        (refusal_then (pending_checks c m.store m.table) _ (pending_numbered c m.store m.table) h)

    pub refuses_work : length m.work < length m.table → refusal (records_checks c m o rs) ≡ 12
    unfolding refusal
    refuses_work l = after_lent ∙ rw (lt-ltb (length m.work) (length m.table) l)

    pub refuses_outcomes : length m.table ≤ length m.work → length o < length rs → refusal (records_checks c m o rs) ≡ 64
    unfolding refusal
    refuses_outcomes k l = after_lent ∙ rw (le-ltb (length m.work) (length m.table) k, lt-ltb (length o) (length rs) l)

    pub refuses_nothing : length m.table ≤ length m.work → length rs ≤ length o → refusal (records_checks c m o rs) ≡ 0
    unfolding refusal
    refuses_nothing k l = after_lent ∙ rw (le-ltb (length m.work) (length m.table) k, le-ltb (length o) (length rs) l)

module _ (c : Committee) (m : Lent) (o : List ℕ) (bytes : Bytes) where
  call_refuses : (n : ℕ) → n ≡ refusal (records_checks c m o (records_in bytes)) → (n ≡ 0 → ⊥) → feed_records c m o bytes ≡ refused_call m o n
  unfolding feed_records
  call_refuses n e f =
      rw (fails (passes (records_checks c m o (records_in bytes))) (λ p. f (e ∙ passes_zero _ p))) (ap (refused_call m o) (sym e))

  pub call_feeds : refusal (records_checks c m o (records_in bytes)) ≡ 0 → feed_records c m o bytes ≡ fed_call o (feed_all c m (records_in bytes))
  unfolding feed_records
  call_feeds z = rw (zero_passes _ (numbered c m o (records_in bytes)) z)

  -- the answer and the slices are those of the definition
  abbrev pub Calls : Answer ℕ → Bytes → List ℕ → List ℕ → List ℕ → Type 0
  Calls a s t v o' =
      (a ≡ (feed_records c m o bytes).answer)
      × ((s ≡ (feed_records c m o bytes).store)
      × ((t ≡ (feed_records c m o bytes).table)
      × ((v ≡ (feed_records c m o bytes).events) × (o' ≡ (feed_records c m o bytes).outcomes))))

  pub calls_refusal : (n : ℕ) → n ≡ refusal (records_checks c m o (records_in bytes)) → (n ≡ 0 → ⊥) → Calls (refused n) m.store m.table m.events o
  unfolding refused_call
  calls_refusal n e f = rw (call_refuses n e f) (refl, (refl, (refl, (refl, refl))))

  pub calls_feeds : (n : ℕ) (s : Bytes) (t v o' : List ℕ) → refusal (records_checks c m o (records_in bytes)) ≡ 0
      → FedEach (feed_all c m (records_in bytes)) o n s t v o' → Calls (answered n) s t v o'
  unfolding fed_call
  calls_feeds n s t v o' z f = rw (call_feeds z) (ap answered f.number, (f.store, (f.table, (f.events, f.outcomes))))
