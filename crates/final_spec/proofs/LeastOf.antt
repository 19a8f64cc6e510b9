-- The least locator of which a test holds, among few places. Assumes nothing.
use mathlib.Core.Path.{◌≡◌, refl, sym, ap, ◌∙◌, subst}
use mathlib.Core.Logic.{◌⊎◌, inl, inr}
use mathlib.Core.Bool.{Bool, true, false, ◌&&◌}
use mathlib.Core.List.{List, [], ◌∷◌}
use mathlib.Core.Option.{Option, none, some, some-injective, none-ne-some}
use Prim.Native.Nat.{ℕ, zero, suc, ◌+◌, ◌≤◌, ◌<◌}
use native.Mathlib.Nat.{suc_inj}
use native.Mathlib.Omega.{arith}
use native.Mathlib.Decide.{ℕ_discrete}
use Rattle.base.specs.Lists.{any_of, keep, ◌∈◌, here}
use Rattle.base.proofs.Tests.{and_both, and_left, and_right, fails, not_both, holds_or_not}
use Rattle.base.proofs.Members.{any_in, in_any, in_keep, keep_in}
use Rattle.record_spec.specs.Reference.{BlockReference, TransactionLocator, locator, same_locator, reference_before, locator_before}
use Rattle.record_spec.proofs.References.{locator_same, same_locator_lem, locator_total, Precedes, by_block, by_offset, precedes, is_before}
use Rattle.final_spec.specs.NextFinal.{is_after, LeastOf, least, nothing, just_after, least_locator}
use Rattle.final_spec.proofs.Least.{Least, one_of, no_one, least_locator_lem}

-- one offset earlier is still after the given locator, but for the one just after it
pub after_below : (after : Option TransactionLocator) (l : TransactionLocator) (o : ℕ) → suc o ≡ l.offset → (l ∈ just_after after → ⊥) → is_after after l ≡
    true → is_after after (locator l.block o) ≡ true
unfolding is_after just_after locator
after_below none l o e no-just h = refl
after_below (some m) l o e no-just h = is_before m (locator l.block o) (split (precedes m l h))
  where
    in_block : m.block ≡ l.block → m.offset < l.offset → Dec (m.offset ≡ o) → Precedes m (locator l.block o)
    in_block f k (yes p) =
        let q : m.offset + 1 ≡ l.offset = omega arith in
        let just : locator m.block (m.offset + 1) ≡ l = λ i. record { block = f i; offset = q i } in
        absurd (no-just (subst (λ (x : TransactionLocator). x ∈ (locator m.block (m.offset + 1) ∷ [])) just here))
    in_block f k (no p) = by_offset f (omega arith)

    split : Precedes m l → Precedes m (locator l.block o)
    split (by_block k) = by_block k
    split (by_offset f k) = in_block f k (ℕ_discrete m.offset o)

-- the test holds after the given locator just before l
pub record JustBefore (test : TransactionLocator → Bool) (after : Option TransactionLocator) (l : TransactionLocator) : Type 0 where
  pub offset : ℕ
  pub next : suc offset ≡ l.offset
  pub holds : test (locator l.block offset) ≡ true
  pub later : is_after after (locator l.block offset) ≡ true

-- a place after the given locator, no later than l, at which the test holds
record Below (test : TransactionLocator → Bool) (after : Option TransactionLocator) (places : List TransactionLocator) (l : TransactionLocator) : Type 0 where
  pub place : TransactionLocator
  pub among : place ∈ places
  pub holds : test place ≡ true
  pub later : is_after after place ≡ true
  pub block : place.block ≡ l.block
  pub offset : place.offset ≤ l.offset

-- where the test holds at no other locator than the places without holding just before it
module _ (test : TransactionLocator → Bool) (after : Option TransactionLocator) (places : List TransactionLocator)
    (step : (l : TransactionLocator) → (l ∈ places → ⊥) → test l ≡ true → is_after after l ≡ true → JustBefore test after l) where
  one_step : (l : TransactionLocator) → ((o : ℕ) → suc o ≡ l.offset → test (locator l.block o) ≡ true → is_after after (locator l.block o) ≡ true →
      Below test after places (locator l.block o))
      → test l ≡ true → is_after after l ≡ true → Below test after places l
  unfolding locator
  one_step l ih f h = split (holds_or_not (any_of (same_locator l) places))
    where
      split : (any_of (same_locator l) places ≡ true) ⊎ (any_of (same_locator l) places ≡ false) → Below test after places l
      split (inl t) =
          let r = any_in (same_locator l) places t in
          record {
            place = l;
            among = subst (λ (x : TransactionLocator). x ∈ places) (sym (locator_same l r.0 r.2)) r.1;
            holds = f;
            later = h;
            block = refl;
            offset = omega arith;
          }
      split (inr t) =
          let j = step l (λ m. not_both (in_any (same_locator l) m (same_locator_lem refl)) t) f h in
          let b = ih j.offset j.next j.holds j.later in
          record { place = b.place; among = b.among; holds = b.holds; later = b.later; block = b.block; offset = omega (arith, b.offset, j.next) }

  place_below : (n : ℕ) (l : TransactionLocator) → l.offset ≡ n → test l ≡ true → is_after after l ≡ true → Below test after places l
  unfolding locator
  place_below zero l e = one_step l (λ o k. absurd (omega arith))
  place_below (suc n) l e = one_step l (λ o k. place_below n (locator l.block o) (suc_inj (k ∙ e)))

  -- a place no later than l comes before what l comes before
  still_before : {l : TransactionLocator} (m : TransactionLocator) (b : Below test after places l) → locator_before l m ≡ true → locator_before b.place m ≡
      true
  still_before {l} m b h = is_before b.place m (split (precedes l m h))
    where
      split : Precedes l m → Precedes b.place m
      split (by_block k) = by_block (subst (λ (r : BlockReference). reference_before r m.block ≡ true) (sym b.block) k)
      split (by_offset e k) = by_offset (b.block ∙ e) (omega (arith, b.offset))

  below_in : {l : TransactionLocator} (b : Below test after places l) → b.place ∈ keep (λ x. is_after after x && test x) places
  below_in b = in_keep (λ x. is_after after x && test x) places b.among (and_both _ _ b.later b.holds)

  least_of : {o : Option TransactionLocator} → Least (keep (λ x. is_after after x && test x) places) o → LeastOf test after o
  least_of (no_one f) = nothing (λ m h. fails (test m) (λ k. f _ (below_in (place_below m.offset m refl k h))))
  least_of (one_of l m f) =
      let r = keep_in (λ x. is_after after x && test x) places m in
      least l (and_right (is_after after l) (test l) r.1) (and_left (is_after after l) (test l) r.1)
      (λ x k h. fails (locator_before x l) (λ e. let b = place_below x.offset x refl k h in not_both (still_before l b e) (f b.place (below_in b))))

  -- the least of the places is the least of all
  pub least_among : LeastOf test after (least_locator (keep (λ x. is_after after x && test x) places))
  least_among = least_of (least_locator_lem (keep (λ x. is_after after x && test x) places))

-- there is one least, of one test or of two that say the same
pub least_once : (p q : TransactionLocator → Bool) → ((l : TransactionLocator) → p l ≡ q l) → (after : Option TransactionLocator)
    {o u : Option TransactionLocator}
    → LeastOf p after o → LeastOf q after u → o ≡ u
least_once p q e after (least l f h a) (least m g k b) = ap {B = Option TransactionLocator} some (locator_total l m (b l (sym (e l) ∙ f) h) (a m (e m ∙ g) k))
least_once p q e after (least l f h a) (nothing b) = absurd (not_both (sym (e l) ∙ f) (b l h))
least_once p q e after (nothing a) (least m g k b) = absurd (not_both (e m ∙ g) (a m k))
least_once p q e after (nothing a) (nothing b) = refl

pub one_least : (test : TransactionLocator → Bool) (after : Option TransactionLocator) {o u : Option TransactionLocator} → LeastOf test after o → LeastOf test
    after u → o ≡ u
one_least test = least_once test test (λ l. refl)

-- the test holds of it
pub least_holds : (test : TransactionLocator → Bool) (after : Option TransactionLocator) (l : TransactionLocator) {o : Option TransactionLocator} → LeastOf
    test after o → o ≡ some l → test l ≡ true
least_holds test after l (least x f h g) e = subst (λ (y : TransactionLocator). test y ≡ true) (some-injective x l e) f
least_holds test after l (nothing g) e = absurd (none-ne-some l e)
