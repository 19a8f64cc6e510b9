-- The checks of what is lent, and the answer of the pending question. Assumes nothing.
use mathlib.Core.Path.{◌≡◌, sym, ◌∙◌}
use mathlib.Core.Bool.{Bool, true, false}
use mathlib.Core.List.{List}
use mathlib.Core.Option.{none, some}
use Prim.Native.Nat.{ℕ, ◌<◌}
use native.Mathlib.Omega.{arith}
use lib.ListN.{length, get_or}
use Rattle.base.specs.Le.{Bytes}
use Rattle.base.specs.Checks.{refusal, passes, refused, answered}
use Rattle.base.proofs.Le.{AllBytes}
use Rattle.base.proofs.Tests.{and_left, and_right, and_both, fails}
use Rattle.base.proofs.Checks.{passes_first, passes_others}
use Rattle.base.proofs.Refusals.{zero_passes, passes_zero}
use Rattle.committee.specs.Committee.{Committee, broken}
use Rattle.committee_set.specs.AuthoritySet.{number_of_voters}
use Rattle.record_spec.specs.Reference.{TransactionLocator}
use Rattle.store_spec.specs.Layout.{entries, position_of, lookup}
use Rattle.store_spec.specs.Store.{records_of, store_in_order}
use Rattle.store_spec.specs.Entry.{readable, chained, laid_out}
use Rattle.store_spec.proofs.Check.{order_checked}
use Rattle.pending_spec.specs.Items.{Item, no_item, item_holds, item_at}
use Rattle.pending_spec.specs.Table.{HoldsItems, items_of, table_in_order}
use Rattle.pending_search.specs.Answers.{FoundBy, at_index, nowhere, found_item}
use Rattle.pending_spec.proofs.Items.{Ordered}
use Rattle.pending_words.proofs.Slots.{holds_ordered}
use Rattle.pending_search.proofs.Finds.{found_item_lem}
use Rattle.pending_form.proofs.Forming.{order_parts}
use Rattle.pending_votes.proofs.Voting.{formed}
use Rattle.feed_spec.specs.Pending.{pending_checks, standing_of, standing_at, pending}
use Rattle.feed_spec.proofs.Checks.{pending_numbered}
use borrow.Author.Tests.{not-false}
use Rattle.std.specs.Prelude.{None, Some, Option}

-- a store in order can be read, and its chain is right
pub order_laid : (c : Committee) (s : Bytes) → AllBytes s → store_in_order c s ≡ true → laid_out s ≡ true
unfolding laid_out
order_laid c s b h =
    let e = sym (order_checked c s b) ∙ h in
    and_both (readable s) (chained s) (and_left (readable s) _ e) (and_left (chained s) _ (and_right (readable s) _ e))

pub laid_readable : (s : Bytes) → laid_out s ≡ true → readable s ≡ true
unfolding laid_out
laid_readable s h = and_left (readable s) (chained s) h

-- ---- 5, 10, 11

module _ (c : Committee) (s : Bytes) (t : List ℕ) where
  pub refuses_committee : broken c ≡ true → refusal (pending_checks c s t) ≡ 5
  unfolding refusal pending_checks
  refuses_committee h = rw h

  module _ (k : broken c ≡ false) where
    pub refuses_store : store_in_order c s ≡ false → refusal (pending_checks c s t) ≡ 10
    unfolding refusal pending_checks
    refuses_store h = rw (k, h)

    module _ (o : store_in_order c s ≡ true) where
      pub refuses_table : table_in_order c (entries (records_of s)) t ≡ false → refusal (pending_checks c s t) ≡ 11
      unfolding refusal pending_checks
      refuses_table h = rw (k, o, h)

      pub refuses_none : table_in_order c (entries (records_of s)) t ≡ true → refusal (pending_checks c s t) ≡ 0
      unfolding refusal pending_checks
      refuses_none h = rw (k, o, h)

  pub record Lying : Type 0 where
    pub committee : broken c ≡ false
    pub store : store_in_order c s ≡ true
    pub table : table_in_order c (entries (records_of s)) t ≡ true
    pub passing : passes (pending_checks c s t) ≡ true

  pub lying : refusal (pending_checks c s t) ≡ 0 → Lying
  unfolding pending_checks
  lying h =
      let p = zero_passes (pending_checks c s t) (pending_numbered c s t) h in
      let q = passes_others _ _ p in
      record {
        committee = passes_first _ _ p;
        store = not-false (store_in_order c s) (passes_first _ _ q);
        table = not-false (table_in_order c (entries (records_of s)) t) (passes_first _ _ (passes_others _ _ q));
        passing = p;
      }

  pub lying_holds : table_in_order c (entries (records_of s)) t ≡ true → HoldsItems t
  lying_holds h = (formed c t (and_left _ _ (sym (order_parts c (entries (records_of s)) t) ∙ h))).holds

  -- ---- the answer

  pub answers_refusal : (l : TransactionLocator) → (refusal (pending_checks c s t) ≡ 0 → ⊥) → pending c s t l ≡ refused (refusal (pending_checks c s t))
  unfolding pending
  answers_refusal l h = rw (fails (passes (pending_checks c s t)) (λ p. h (passes_zero (pending_checks c s t) p)))

  pub answers_standing : (l : TransactionLocator) → refusal (pending_checks c s t) ≡ 0 → pending c s t l ≡ standing_at s t l
  unfolding pending standing_at
  answers_standing l h = rw (lying h).passing

-- the index that was found
pub index_found : (test : Item → Bool) (xs : List Item) (r : Option ℕ) (i : ℕ) → FoundBy test xs r → r ≡ Some i → i < length xs
index_found test xs r i (at_index j l e) q = let z : j ≡ i = cc in omega arith
index_found test xs r i (nowhere f) q = let z : ◌≡◌ {A = ℕ} 0 1 = cc in absurd (omega arith)

-- what stands at an offset, by what was found
module _ (xs : List Item) (o : Ordered xs) (p q : ℕ) (r : Option ℕ) (f : FoundBy (item_holds p q) xs r) where
  pub at_none : r ≡ None → item_at xs p q ≡ none
  unfolding found_item
  at_none e = found_item_lem xs o p q r f ∙ rw e

  pub at_some : (i : ℕ) → r ≡ Some i → item_at xs p q ≡ some (get_or xs i no_item)
  unfolding found_item
  at_some i e = found_item_lem xs o p q r f ∙ rw e

module _ (s : Bytes) (t : List ℕ) (l : TransactionLocator) (p : ℕ) (r : Option ℕ) (h : HoldsItems t)
    (e : p ≡ position_of (lookup (entries (records_of s)) l.block))
    (f : FoundBy (item_holds p l.offset) (items_of t) r) where
  stands : standing_at s t l ≡ standing_of (found_item (items_of t) r)
  unfolding standing_at
  stands = rw (← e, found_item_lem (items_of t) (holds_ordered t h) p l.offset r f)

  pub standing_none : r ≡ None → standing_at s t l ≡ refused 42
  unfolding standing_of found_item
  standing_none q = stands ∙ rw q

  pub standing_some : (i : ℕ) (x : Item) → r ≡ Some i → x ≡ get_or (items_of t) i no_item
      → standing_at s t l ≡ answered (record { stake = x.aggregator.stake; voters = number_of_voters x.aggregator.votes })
  unfolding standing_of found_item
  standing_some i x q d = stands ∙ rw (q, ← d)
