-- The checks of feeding, one group after the other. Assumes nothing.
use mathlib.Core.Path.{◌≡◌, refl, sym, ◌∙◌}
use mathlib.Core.Bool.{Bool, true, false}
use mathlib.Core.List.{[]}
use mathlib.Core.Option.{Option, none, some}
use Prim.Native.Nat.{◌≤◌, ◌<◌}
use native.Mathlib.Omega.{arith}
use lib.Dec.{ltb, leb, lit<}
use lib.ListN.{length}
use borrow.Author.Tests.{lt-ltb, le-ltb, leb-true, leb-false}
use Rattle.base.specs.Lists.{pick}
use Rattle.base.specs.Le.{Bytes}
use Rattle.base.specs.Checks.{◌⇒◌, refusal, passes}
use Rattle.base.proofs.Tests.{not_both}
use Rattle.base.proofs.Lists.{none_of, and, every_append}
use Rattle.base.proofs.Checks.{passes_first}
use Rattle.base.proofs.Refusals.{Numbered, zero_passes, refusal_first, refusal_then}
use Rattle.committee.specs.Committee.{Committee}
use Rattle.record_spec.specs.Record.{well_formed}
use Rattle.store_spec.specs.Layout.{Record, read_record}
use Rattle.store_spec.specs.Store.{record_in}
use Rattle.store_spec.specs.Entry.{laid_out}
use Rattle.pending_spec.specs.Table.{room}
use Rattle.feed_spec.specs.Pending.{pending_checks}
use Rattle.feed_spec.specs.Feed.{Lent, processed, lent_checks, rule_checks, accept_checks, record_checks, feed_checks}
use Rattle.feed_spec.proofs.Checks.{read_none, read_some, pending_numbered}
use Rattle.feed_spec.proofs.Keeping.{Passed, acceptable}
use Rattle.feed_aggregator.specs.Step.{Feeding}
use Rattle.pending_question.proofs.Lending.{lying}
use Rattle.feed_checks.proofs.Feeds.{accept_numbered}

-- ---- the whole order

lent_numbered : (c : Committee) (m : Lent) → Numbered (lent_checks c m)
unfolding lent_checks
lent_numbered c m = every_append (pending_checks c m.store m.table) _ (pending_numbered c m.store m.table) (and (lit< tt) none_of)

module _ (c : Committee) (m : Lent) (o : Option Record) where
  pub feeds_lent : (refusal (pending_checks c m.store m.table) ≡ 0 → ⊥)
      → refusal (feed_checks c m o) ≡ refusal (pending_checks c m.store m.table)
  unfolding feed_checks lent_checks
  feeds_lent h =
      let e = refusal_first (pending_checks c m.store m.table) _ h in
      refusal_first (lent_checks c m) (record_checks c m o) (λ z. h (sym e ∙ z)) ∙ e

  module _ (h : refusal (pending_checks c m.store m.table) ≡ 0) where
    at_work : refusal (lent_checks c m) ≡ pick (ltb (length m.work) (length m.table)) 12 0
    unfolding lent_checks refusal
    at_work = refusal_then (pending_checks c m.store m.table) _ (pending_numbered c m.store m.table) h

    pub feeds_work : length m.work < length m.table → refusal (feed_checks c m o) ≡ 12
    unfolding feed_checks
    feeds_work l =
        let e : refusal (lent_checks c m) ≡ 12 = at_work ∙ rw (lt-ltb (length m.work) (length m.table) l) in
        refusal_first (lent_checks c m) (record_checks c m o) (λ (z : refusal (lent_checks c m) ≡ 0). omega (arith, e)) ∙ e

    pub feeds_record : length m.table ≤ length m.work → refusal (feed_checks c m o) ≡ refusal (record_checks c m o)
    unfolding feed_checks
    feeds_record l =
        refusal_then (lent_checks c m) (record_checks c m o) (lent_numbered c m) (at_work ∙ rw (le-ltb (length m.work) (length m.table) l))

pub feeds_asked : (c : Committee) (m : Lent) (o : Option Record) → (refusal (accept_checks c m.store (length m.events) o) ≡ 0 → ⊥)
    → refusal (record_checks c m o) ≡ refusal (accept_checks c m.store (length m.events) o)
unfolding record_checks
feeds_asked c m none h = refl
feeds_asked c m (some r) h = refusal_first (accept_checks c m.store (length m.events) (some r)) _ h

feeds_full : (c : Committee) (m : Lent) (r : Record) → refusal (accept_checks c m.store (length m.events) (some r)) ≡ 0
    → refusal (record_checks c m (some r)) ≡ pick (ltb (room m.table) (processed c m r).most) 14 0
unfolding record_checks refusal
feeds_full c m r z = refusal_then _ _ (accept_numbered c m.store (length m.events) (some r)) z

all_numbered : (c : Committee) (m : Lent) (r : Record) → Numbered (feed_checks c m (some r))
unfolding feed_checks record_checks
all_numbered c m r =
    every_append (lent_checks c m) _ (lent_numbered c m)
    (every_append _ _ (accept_numbered c m.store (length m.events) (some r)) (and (lit< tt) none_of))

pub checks_pass : (c : Committee) (m : Lent) (bytes : Bytes) → well_formed bytes ≡ true → refusal (feed_checks c m (read_record bytes)) ≡ 0
    → passes (feed_checks c m (some (record_in bytes))) ≡ true
checks_pass c m bytes w z = zero_passes _ (all_numbered c m (record_in bytes)) (rw (read_some bytes w) at z)

-- ---- what it says that none of them applies

module _ (c : Committee) (m : Lent) (bytes : Bytes) (z : refusal (accept_checks c m.store (length m.events) (read_record bytes)) ≡ 0) where
  -- a record that passes all checks but 14
  pub accepted : (well_formed bytes ≡ true) × Passed c m (record_in bytes)
  unfolding accept_checks rule_checks
  accepted = go (well_formed bytes) refl
    where
      p : passes (accept_checks c m.store (length m.events) (read_record bytes)) ≡ true
      p = zero_passes _ (accept_numbered c m.store (length m.events) (read_record bytes)) z

      go : (t : Bool) → well_formed bytes ≡ t → (well_formed bytes ≡ true) × Passed c m (record_in bytes)
      go true w = (w, acceptable c m (record_in bytes) (rw (read_some bytes w) at p))
      go false w = absurd (not_both refl (passes_first (true ⇒ 20) [] (rw (read_none bytes w) at p)))

  -- what is known before the record is counted
  pub feeding : refusal (pending_checks c m.store m.table) ≡ 0 → laid_out m.store ≡ true → Feeding c m.store bytes m.table
  unfolding record_in
  feeding h l =
      let s = lying c m.store m.table h in
      record { committee = s.committee; store = l; formed = accepted.0; checks = accepted.1.block; table = s.table }

-- ---- the last refusal

module _ (c : Committee) (m : Lent) (bytes : Bytes) where
  module _ (h : refusal (pending_checks c m.store m.table) ≡ 0) (l : length m.table ≤ length m.work)
      (z : refusal (accept_checks c m.store (length m.events) (read_record bytes)) ≡ 0) where
    at_items : refusal (feed_checks c m (read_record bytes)) ≡ pick (ltb (room m.table) (processed c m (record_in bytes)).most) 14 0
    at_items =
        let e = read_some bytes (accepted c m bytes z).0 in
        feeds_record c m (read_record bytes) h l ∙ rw e (feeds_full c m (record_in bytes) (rw e at z))

    pub feeds_crowded : leb (processed c m (record_in bytes)).most (room m.table) ≡ false → refusal (feed_checks c m (read_record bytes)) ≡ 14
    feeds_crowded f = at_items ∙ rw (lt-ltb (room m.table) (processed c m (record_in bytes)).most (leb-false _ _ f))

    pub feeds_none : leb (processed c m (record_in bytes)).most (room m.table) ≡ true → refusal (feed_checks c m (read_record bytes)) ≡ 0
    feeds_none f = at_items ∙ rw (le-ltb (room m.table) (processed c m (record_in bytes)).most (leb-true _ _ f))
