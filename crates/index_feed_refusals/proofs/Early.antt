-- The refusals of an indexed feed before those about memory. Assumes nothing.
use mathlib.Core.Path.{◌≡◌, ◌∙◌}
use mathlib.Core.Bool.{true, false}
use mathlib.Core.List.{List}
use Prim.Native.Nat.{ℕ}
use Rattle.base.specs.Le.{Bytes}
use Rattle.base.specs.Checks.{refusal}
use Rattle.base.proofs.Refusals.{refusal_first, refusal_then}
use Rattle.committee.specs.Committee.{Committee}
use Rattle.record_spec.specs.Record.{well_formed, block_in}
use Rattle.store_spec.specs.Layout.{read_record}
use Rattle.store_spec.specs.Store.{records_of, record_in}
use Rattle.store_spec.specs.Accept.{block_checks}
use Rattle.feed_spec.specs.Feed.{rule_checks}
use Rattle.feed_spec.proofs.Checks.{read_none, read_some}
use Rattle.index_feed_spec.specs.IndexedFeed.{indexed_lent_checks}
use Rattle.index_feed_spec.proofs.Order.{lent_numbered}
use Rattle.index_feed_refusals.specs.Refusals.{early_indexed_checks}

module _ (c : Committee) (s : Bytes) (t ix : List ℕ) (bytes : Bytes) where
  pub early_lent : (refusal (indexed_lent_checks c s t ix) ≡ 0 → ⊥) → refusal (early_indexed_checks c s t ix bytes) ≡ refusal (indexed_lent_checks c s t ix)
  unfolding early_indexed_checks
  early_lent h = refusal_first (indexed_lent_checks c s t ix) _ h

  module _ (h : refusal (indexed_lent_checks c s t ix) ≡ 0) where
    after_lent : refusal (early_indexed_checks c s t ix bytes) ≡ refusal (rule_checks c s (read_record bytes))
    unfolding early_indexed_checks
    after_lent = refusal_then (indexed_lent_checks c s t ix) _ (lent_numbered c s t ix) h

    pub early_malformed : well_formed bytes ≡ false → refusal (early_indexed_checks c s t ix bytes) ≡ 20
    unfolding rule_checks refusal
    early_malformed w = after_lent ∙ rw (read_none bytes w)

    pub early_rules : well_formed bytes ≡ true → refusal (early_indexed_checks c s t ix bytes) ≡ refusal (block_checks c (records_of s) (block_in bytes))
    unfolding rule_checks record_in
    early_rules w = after_lent ∙ rw (read_some bytes w)
