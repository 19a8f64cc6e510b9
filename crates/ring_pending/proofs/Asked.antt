-- Whom to ring, by what the pending question finds. Assumes nothing.
use mathlib.Core.Path.{◌≡◌}
use mathlib.Core.Bool.{Bool, true, false}
use mathlib.Core.List.{List}
use mathlib.Core.Option.{Option, none, some}
use Prim.Native.Nat.{ℕ}
use native.Mathlib.Omega.{arith}
use lib.ListN.{get_or}
use Rattle.base.specs.Lists.{pick}
use Rattle.base.specs.Le.{Bytes}
use Rattle.base.specs.Checks.{refusal, passes, refused}
use Rattle.base.proofs.Tests.{fails}
use Rattle.base.proofs.Refusals.{passes_zero}
use Rattle.committee.specs.Committee.{Committee}
use Rattle.committee_set.specs.AuthoritySet.{AuthoritySet}
use Rattle.ring_owners.specs.Ranked.{ring}
use Rattle.record_spec.specs.Reference.{TransactionLocator}
use Rattle.store_spec.specs.Layout.{entries, position_of, lookup}
use Rattle.store_spec.specs.Store.{records_of}
use Rattle.pending_spec.specs.Items.{Item, no_item, item_holds, item_at}
use Rattle.pending_spec.specs.Table.{HoldsItems, items_of}
use Rattle.pending_search.specs.Answers.{FoundBy}
use Rattle.pending_words.proofs.Slots.{holds_ordered}
use Rattle.feed_spec.specs.Pending.{pending_checks, standing_of, standing_at, pending}
use Rattle.pending_question.proofs.Lending.{lying, at_none, at_some}
use Rattle.ring_pending.specs.WhomToRing.{ring_for, ring_at, whom_to_ring, Claims}
use Rattle.std.specs.Prelude.{None, Some}
use Rattle.std.specs.declared.option.Option as code

module _ (c : Committee) (s : Bytes) (t : List ℕ) (w : AuthoritySet) (l : TransactionLocator) where
  pub asked_refused : (refusal (pending_checks c s t) ≡ 0 → ⊥) → whom_to_ring c s t w l ≡ refused (refusal (pending_checks c s t))
  unfolding whom_to_ring
  asked_refused h = rw (fails (passes (pending_checks c s t)) (λ p. h (passes_zero (pending_checks c s t) p)))

  pub asked_at : refusal (pending_checks c s t) ≡ 0 → whom_to_ring c s t w l ≡ ring_at c s t w l
  unfolding whom_to_ring
  asked_at h = rw (lying c s t h).passing

  module _ (p : ℕ) (r : code.Option ℕ) (h : HoldsItems t) (e : p ≡ position_of (lookup (entries (records_of s)) l.block))
      (f : FoundBy (item_holds p l.offset) (items_of t) r) where
    pub ring_none : r ≡ None → ring_at c s t w l ≡ refused 42
    unfolding ring_at ring_for
    ring_none q = rw (← e, at_none (items_of t) (holds_ordered t h) p l.offset r f q)

    pub ring_some : (i : ℕ) (x : Item) → r ≡ Some i → x ≡ get_or (items_of t) i no_item → ring_at c s t w l ≡ ring c x.aggregator.votes w
    unfolding ring_at ring_for
    ring_some i x q d = rw (← e, at_some (items_of t) (holds_ordered t h) p l.offset r f i q, ← d)

pub claimed : Claims
unfolding pending standing_at whom_to_ring ring_at
claimed = record {
  refused_alike = λ c s t r l n h. alike c s t r l n h (passes (pending_checks c s t))
      (item_at (items_of t) (position_of (lookup (entries (records_of s)) l.block)) l.offset) h;
}
  where
    none_or : (c : Committee) (r : AuthoritySet) (n : ℕ) (o : Option Item) → standing_of o ≡ refused n → ring_for c r o ≡ refused n
    none_or c r n none h = unfold standing_of ring_for in (cc)
    none_or c r n (some x) h = let z : ◌≡◌ {A = ℕ} 0 1 = unfold standing_of in (cc) in absurd (omega arith)

    alike : (c : Committee) (s : Bytes) (t : List ℕ) (r : AuthoritySet) (l : TransactionLocator) (n : ℕ) → pending c s t l ≡ refused n → (u : Bool)
        (o : Option Item)
        → pick u (standing_of o) (refused (refusal (pending_checks c s t))) ≡ refused n → pick u (ring_for c r o) (refused (refusal (pending_checks c s t))) ≡
        refused n
    alike c s t r l n k true o h = none_or c r n o h
    alike c s t r l n k false o h = (cc)
