-- The least of some locators. Assumes nothing.
use mathlib.Core.Path.{◌≡◌, refl}
use mathlib.Core.Logic.{◌⊎◌, inl, inr}
use mathlib.Core.Bool.{Bool, true, false}
use mathlib.Core.List.{List, [], ◌∷◌}
use mathlib.Core.Option.{Option, none, some}
use Rattle.base.specs.Lists.{pick, ◌∈◌, here, there}
use Rattle.base.proofs.Tests.{fails, not_both}
use Rattle.base.proofs.Members.{in_empty, in_cases}
use Rattle.record_spec.specs.Reference.{TransactionLocator, locator_before}
use Rattle.record_spec.proofs.References.{locator_irrefl, locator_trans}
use Rattle.final_spec.specs.NextFinal.{lesser_locator, least_locator}

-- none comes before it; or there is none
pub data Least (ls : List TransactionLocator) : Option TransactionLocator → Type 0 where
  one_of : (l : TransactionLocator) → l ∈ ls → ((m : TransactionLocator) → m ∈ ls → locator_before m l ≡ false) → Least ls (some l)
  no_one : ((m : TransactionLocator) → m ∈ ls → ⊥) → Least ls none

lesser : (l : TransactionLocator) {ls : List TransactionLocator} {o : Option TransactionLocator} → Least ls o → Least (l ∷ ls) (lesser_locator l o)
unfolding lesser_locator
lesser l {ls} (no_one f) = one_of l here (λ m k. alone m (in_cases k))
  where
    alone : (m : TransactionLocator) → (m ≡ l) ⊎ (m ∈ ls) → locator_before m l ≡ false
    alone m (inl e) = fails (locator_before m l) (λ h. locator_irrefl l (rw e at h))
    alone m (inr k) = absurd (f m k)
lesser l {ls} (one_of x i f) = split (locator_before l x) refl
  where
    first : locator_before l x ≡ true → (m : TransactionLocator) → (m ≡ l) ⊎ (m ∈ ls) → locator_before m l ≡ false
    first t m (inl e) = fails (locator_before m l) (λ h. locator_irrefl l (rw e at h))
    first t m (inr k) = fails (locator_before m l) (λ h. not_both (locator_trans m l x h t) (f m k))

    rest : locator_before l x ≡ false → (m : TransactionLocator) → (m ≡ l) ⊎ (m ∈ ls) → locator_before m x ≡ false
    rest t m (inl e) = rw e t
    rest t m (inr k) = f m k

    split : (t : Bool) → locator_before l x ≡ t → Least (l ∷ ls) (pick t (some l) (some x))
    split true t = one_of l here (λ m k. first t m (in_cases k))
    split false t = one_of x (there i) (λ m k. rest t m (in_cases k))

-- what is computed is the least
pub least_locator_lem : (ls : List TransactionLocator) → Least ls (least_locator ls)
unfolding least_locator
least_locator_lem [] = no_one (λ m k. in_empty k)
least_locator_lem (l ∷ ls) = lesser l (least_locator_lem ls)
