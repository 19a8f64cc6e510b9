-- The spans of a block: one for each share, and the range of each accept and each vote range. Assumes nothing.
use mathlib.Core.Path.{◌≡◌, refl, sym, ap, ◌∙◌}
use mathlib.Core.Logic.{◌⊎◌, inl, inr}
use mathlib.Core.Bool.{Bool, true, false, true≢false}
use mathlib.Core.List.{List, [], ◌∷◌, Option-to_list}
use mathlib.Core.Option.{Option, none, some}
use Prim.Native.Nat.{ℕ, zero, suc, ◌+◌, ◌<◌}
use native.Mathlib.Omega.{arith}
use lib.ListN.{length, get_elem?}
use Rattle.base.specs.Lists.{pick, holds, ◌∈◌, here, there}
use Rattle.base.proofs.Tests.{not_both}
use Rattle.base.proofs.Members.{in_empty, in_cases, in_right, in_append}
use Rattle.record_spec.specs.Reference.{BlockReference, TransactionLocatorRange, locator, one_range}
use Rattle.record_spec.specs.Block.{Statement, is_share, voted_range, spans_from}

-- where a span of statements comes from, of which the first has offset o
pub data Span (r : BlockReference) (o : ℕ) (ss : List Statement) (q : TransactionLocatorRange) : Type 0 where
  of_share : (k : ℕ) → holds is_share (get_elem? ss k) ≡ true → q ≡ one_range (locator r (o + k)) → Span r o ss q
  of_vote : (s : Statement) → s ∈ ss → voted_range s ≡ some q → Span r o ss q

-- a share's own locator is a span
pub share_span : (r : BlockReference) (o k : ℕ) (ss : List Statement) → holds is_share (get_elem? ss k) ≡ true
    → one_range (locator r (o + k)) ∈ spans_from r o ss
unfolding spans_from holds
share_span r o k [] h = absurd (true≢false (sym h))
share_span r o zero (s ∷ ss) h = let e : o + 0 ≡ o = omega arith in rw (e, h) here
share_span r o (suc k) (s ∷ ss) h =
    let e : o + suc k ≡ o + 1 + k = omega arith in
    rw e (in_right (pick (is_share s) (one_range (locator r o) ∷ []) (Option-to_list (voted_range s))) (share_span r (o + 1) k ss h))

-- so is what an accept or a range votes for
pub vote_span : (r : BlockReference) (o : ℕ) (q : TransactionLocatorRange) (s : Statement) → voted_range s ≡ some q → is_share s ≡ false → (ss : List Statement)
    → s ∈ ss → q ∈ spans_from r o ss
unfolding spans_from Option-to_list
vote_span r o q s e f [] x3 = elim x3 [ ]
vote_span r o q s e f (x ∷ ss) here = rw (f, e) here
vote_span r o q s e f (x ∷ ss) (there m) = in_right (pick (is_share x) (one_range (locator r o) ∷ []) (Option-to_list (voted_range x)))
    (vote_span r (o + 1) q s e f ss m)

-- and nothing else is
pub span_of : (r : BlockReference) (o : ℕ) (ss : List Statement) (q : TransactionLocatorRange) → q ∈ spans_from r o ss → Span r o ss q
unfolding spans_from holds Option-to_list
span_of r o [] q m = absurd (in_empty m)
span_of r o (s ∷ ss) q m = either (in_append (pick (is_share s) (one_range (locator r o) ∷ []) (Option-to_list (voted_range s))) m) (span_of r (o + 1) ss q)
  where
    later : Span r (o + 1) ss q → Span r o (s ∷ ss) q
    later (of_share k h e) = let n : o + 1 + k ≡ o + suc k = omega arith in of_share (suc k) h (e ∙ ap (λ (i : ℕ). one_range (locator r i)) n)
    later (of_vote x k e) = of_vote x (there k) e

    itself : is_share s ≡ true → (q ≡ one_range (locator r o)) ⊎ (q ∈ []) → Span r o (s ∷ ss) q
    itself h (inl e) = let n : o ≡ o + 0 = omega arith in of_share 0 h (e ∙ ap (λ (i : ℕ). one_range (locator r i)) n)
    itself h (inr k) = absurd (in_empty k)

    only : (x : TransactionLocatorRange) → voted_range s ≡ some x → (q ≡ x) ⊎ (q ∈ []) → Span r o (s ∷ ss) q
    only x h (inl e) = of_vote s here (h ∙ ap {B = Option TransactionLocatorRange} some (sym e))
    only x h (inr k) = absurd (in_empty k)

    voted : (v : Option TransactionLocatorRange) → voted_range s ≡ v → q ∈ Option-to_list v → Span r o (s ∷ ss) q
    voted none h k = absurd (in_empty k)
    voted (some x) h k = only x h (in_cases k)

    first : (t : Bool) → is_share s ≡ t → q ∈ pick t (one_range (locator r o) ∷ []) (Option-to_list (voted_range s)) → Span r o (s ∷ ss) q
    first true h k = itself h (in_cases k)
    first false h k = voted (voted_range s) refl k

    either : (q ∈ pick (is_share s) (one_range (locator r o) ∷ []) (Option-to_list (voted_range s))) ⊎ (q ∈ spans_from r (o + 1) ss)
        → (q ∈ spans_from r (o + 1) ss → Span r (o + 1) ss q) → Span r o (s ∷ ss) q
    either (inl k) ih = first (is_share s) refl k
    either (inr k) ih = later (ih k)

-- a share's index
pub share_index : (ss : List Statement) (k : ℕ) → holds is_share (get_elem? ss k) ≡ true → k < length ss
unfolding holds
share_index [] k h = absurd (not_both h refl)
share_index (s ∷ ss) zero h = omega arith
share_index (s ∷ ss) (suc k) h = omega (arith, share_index ss k h)
