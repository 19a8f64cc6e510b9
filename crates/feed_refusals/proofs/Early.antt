-- The refusals before those about memory. Assumes nothing.
use mathlib.Core.Path.{◌≡◌, ◌∙◌}
use mathlib.Core.Bool.{true, false}
use mathlib.Core.List.{List}
use Prim.Native.Nat.{ℕ}
use Rattle.base.specs.Le.{Bytes}
use Rattle.base.specs.Checks.{refusal}
use Rattle.base.proofs.Refusals.{refusal_first, refusal_then}
use Rattle.committee.specs.Committee.{Committee}
use Rattle.record_spec.specs.Record.{well_formed, block_in}
use Rattle.store_spec.specs.Layout.{read_record}
use Rattle.store_spec.specs.Accept.{block_checks}
use Rattle.store_spec.specs.Store.{records_of, record_in}
use Rattle.feed_spec.specs.Pending.{pending_checks}
use Rattle.feed_spec.specs.Feed.{rule_checks}
use Rattle.feed_spec.proofs.Checks.{read_none, read_some, pending_numbered}
use Rattle.feed_refusals.specs.Refusals.{early_checks}

module _ (c : Committee) (s : Bytes) (t : List ℕ) (rec : Bytes) where
  pub early_lent : (refusal (pending_checks c s t) ≡ 0 → ⊥) → refusal (early_checks c s t rec) ≡ refusal (pending_checks c s t)
  unfolding early_checks
  early_lent h = refusal_first (pending_checks c s t) _ h

  module _ (h : refusal (pending_checks c s t) ≡ 0) where
    after_lent : refusal (early_checks c s t rec) ≡ refusal (rule_checks c s (read_record rec))
    unfolding early_checks
    after_lent = refusal_then (pending_checks c s t) _ (pending_numbered c s t) h

    pub early_malformed : well_formed rec ≡ false → refusal (early_checks c s t rec) ≡ 20
    unfolding rule_checks refusal
    early_malformed w = after_lent ∙ rw (read_none rec w)

    pub early_rules : well_formed rec ≡ true → refusal (early_checks c s t rec) ≡ refusal (block_checks c (records_of s) (block_in rec))
    unfolding rule_checks record_in
    early_rules w = after_lent ∙ rw (read_some rec w)
