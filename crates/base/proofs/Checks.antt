-- Laws of checks: what it says that none applies. Assumes nothing.
use mathlib.Core.Path.{◌≡◌, refl, sym}
use mathlib.Core.List.{List, [], ◌∷◌, ◌++◌}
use mathlib.Core.Bool.{Bool, true, false, not, ◌&&◌}
use Prim.Native.Nat.{ℕ, ◌<◌}
use native.Mathlib.Omega.{arith}
use lib.Dec.{eqb}
use borrow.Author.Tests.{not-true, ne_eqb}
use Rattle.base.specs.Lists.{pick, all_of, ◌∈◌}
use Rattle.base.proofs.Members.{all_in}
use Rattle.base.proofs.Tests.{and_left, and_right}
use Rattle.base.proofs.Lists.{all_left, all_right, Every, none_of, and}
use Rattle.base.specs.Checks.{Check, refusal, passes, Answer, refused, answered, checked}

-- the first check does not apply, and no other does
pub passes_first : (k : Check) (ks : List Check) → passes (k ∷ ks) ≡ true → k.applies ≡ false
unfolding passes all_of
passes_first k ks h = not-true k.applies (and_left (not k.applies) _ h)

pub passes_others : (k : Check) (ks : List Check) → passes (k ∷ ks) ≡ true → passes ks ≡ true
unfolding passes all_of
passes_others k ks h = and_right (not k.applies) _ h

-- neither of two lists has one that applies
pub passes_left : (ks ls : List Check) → passes (ks ++ ls) ≡ true → passes ks ≡ true
unfolding passes
passes_left ks ls h = all_left (λ k. not k.applies) ks ls h

pub passes_right : (ks ls : List Check) → passes (ks ++ ls) ≡ true → passes ls ≡ true
unfolding passes
passes_right ks ls h = all_right (λ k. not k.applies) ks ls h

-- where every number is above 0, none applies exactly where the refusal is 0
pub passes_refusal : (ks : List Check) → Every (λ k. 0 < k.number) ks → passes ks ≡ eqb (refusal ks) 0
unfolding passes all_of refusal
passes_refusal [] none_of = refl
passes_refusal (k ∷ ks) (and h hs) = go k.applies (passes_refusal ks hs)
  where
    go : (t : Bool) → passes ks ≡ eqb (refusal ks) 0 → not t && passes ks ≡ eqb (pick t k.number (refusal ks)) 0
    go true ih = sym (ne_eqb k.number 0 (λ e. omega arith))
    go false ih = ih

-- where a list of checks passes, none of them applies
pub passes_none : (ks : List Check) → passes ks ≡ true → (k : Check) → k ∈ ks → k.applies ≡ false
unfolding passes
passes_none ks h k m = not-true k.applies (all_in (λ j. not j.applies) ks h m)

-- the first refusal of two lists is that of the first unless it passes
pub refusal_append : (xs ys : List Check) → refusal (xs ++ ys) ≡ pick (passes xs) (refusal ys) (refusal xs)
unfolding refusal passes all_of
refusal_append [] ys = refl
refusal_append (k ∷ ks) ys = split k.applies refl (refusal_append ks ys)
  where
    split : (t : Bool) → k.applies ≡ t → refusal (ks ++ ys) ≡ pick (passes ks) (refusal ys) (refusal ks)
        → refusal (k ∷ ks ++ ys) ≡ pick (passes (k ∷ ks)) (refusal ys) (refusal (k ∷ ks))
    split true e ih = rw e
    split false e ih = rw e ih

-- a call answered: no check applied, and that is the value
pub checked_answered : {A : Type 0} (ks : List Check) (a b : A) → checked ks a ≡ answered b → (passes ks ≡ true) × (a ≡ b)
unfolding checked
checked_answered {A} ks a b h = go (passes ks) refl h
  where
    go : (t : Bool) → passes ks ≡ t → pick t (answered a) (refused (refusal ks)) ≡ answered b → (passes ks ≡ true) × (a ≡ b)
    go true e k = (e, cc)
    go false e k = let z : ◌≡◌ {A = ℕ} 0 1 = cc in absurd (omega arith)

-- a call refused: a check applied
pub checked_refused : {A : Type 0} (ks : List Check) (a : A) (n : ℕ) → checked ks a ≡ refused n → passes ks ≡ false
unfolding checked
checked_refused {A} ks a n h = go (passes ks) h
  where
    go : (t : Bool) → pick t (answered a) (refused (refusal ks)) ≡ refused n → t ≡ false
    go true k = let z : ◌≡◌ {A = ℕ} 0 1 = cc in absurd (omega arith)
    go false k = refl

-- an answer is no refusal
pub refused_answered : {A : Type 0} {a : Answer A} {n : ℕ} {x : A} → a ≡ refused n → a ≡ answered x → ⊥
refused_answered h k = let z : ◌≡◌ {A = ℕ} 0 1 = cc in omega arith
