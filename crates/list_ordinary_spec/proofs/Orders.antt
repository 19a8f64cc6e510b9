-- Lists of locators in ascending order. Assumes nothing.
use mathlib.Core.Path.{◌≡◌, refl}
use mathlib.Core.Logic.{◌⊎◌, inl, inr}
use mathlib.Core.Bool.{true}
use mathlib.Core.List.{List, [], ◌∷◌, ◌++◌}
use Rattle.base.specs.Lists.{pairwise, ◌∈◌, here, there, Once, empty, also}
use Rattle.base.proofs.Tests.{and_both}
use Rattle.base.proofs.Members.{in_cases, in_first, in_append, in_all}
use Rattle.record_spec.specs.Reference.{TransactionLocator, locator_before}
use Rattle.record_spec.proofs.References.{locator_irrefl, locator_trans}
use Rattle.final_spec.specs.NextFinal.{ascending_locators}
use Rattle.final_spec.proofs.FinalList.{Ascending, none_left, and_then, placed_in}

pub ascending_pairwise : {ls : List TransactionLocator} → Ascending ls → pairwise locator_before ls ≡ true
unfolding pairwise
ascending_pairwise none_left = refl
ascending_pairwise (and_then {l = l} {ls = ls} h a) = and_both _ _ (in_all (locator_before l) ls h) (ascending_pairwise a)

pub ascending_once : {ls : List TransactionLocator} → Ascending ls → Once ls
ascending_once none_left = empty
ascending_once (and_then {l = l} h a) = also (λ m. locator_irrefl l (h l m)) (ascending_once a)

pub ascending_append : {xs ys : List TransactionLocator} → Ascending xs → Ascending ys →
    ((x y : TransactionLocator) → x ∈ xs → y ∈ ys → locator_before x y ≡ true) → Ascending (xs ++ ys)
ascending_append none_left b f = b
ascending_append {ys = ys} (and_then {l = l} {ls = ls} h a) b f = and_then (λ m k. split m (in_append ls k))
    (ascending_append a b (λ x y i j. f x y (there i) j))
  where
    split : (m : TransactionLocator) → (m ∈ ls) ⊎ (m ∈ ys) → locator_before l m ≡ true
    split m (inl k) = h m k
    split m (inr k) = f l m here k

-- what stands after a locator comes after it
pub ascending_later : (xs : List TransactionLocator) (l : TransactionLocator) (ys : List TransactionLocator) → Ascending (xs ++ l ∷ ys) →
    (m : TransactionLocator) → m ∈ ys → locator_before l m ≡ true
ascending_later [] l ys (and_then h a) m k = h m k
ascending_later (x ∷ xs) l ys (and_then h a) m k = ascending_later xs l ys a m k

-- so what comes before it stands before it
pub stands_before : (xs : List TransactionLocator) (l : TransactionLocator) (ys : List TransactionLocator) → Ascending (xs ++ l ∷ ys)
    → (m : TransactionLocator) → m ∈ (xs ++ l ∷ ys) → locator_before m l ≡ true → m ∈ xs
stands_before xs l ys a m k h = split (in_append xs k)
  where
    after : (m ≡ l) ⊎ (m ∈ ys) → m ∈ xs
    after (inl e) = absurd (locator_irrefl l (rw e at h))
    after (inr j) = absurd (locator_irrefl l (locator_trans l m l (ascending_later xs l ys a m j) h))

    split : (m ∈ xs) ⊎ (m ∈ (l ∷ ys)) → m ∈ xs
    split (inl j) = j
    split (inr j) = after (in_cases j)

-- ---- locators put in order are those given

pub ascending_in : (x : TransactionLocator) (ls : List TransactionLocator) → x ∈ ascending_locators ls → x ∈ ls
unfolding ascending_locators
ascending_in x [] k = k
ascending_in x (l ∷ ls) k = split (placed_in l x (ascending_locators ls) k) (λ j. ascending_in x ls j)
  where
    split : (x ≡ l) ⊎ (x ∈ ascending_locators ls) → (x ∈ ascending_locators ls → x ∈ ls) → x ∈ (l ∷ ls)
    split (inl e) ih = in_first e
    split (inr j) ih = there (ih j)
