-- The greatest number with which a call can be refused. Assumes nothing.
use mathlib.Core.Path.{◌≡◌}
use mathlib.Core.Bool.{Bool, true, false}
use mathlib.Core.List.{List, [], ◌∷◌}
use Prim.Native.Nat.{ℕ, ◌≤◌}
use native.Mathlib.Omega.{arith}
use lib.Dec.{leb}
use borrow.Author.Tests.{leb-true}
use Rattle.base.specs.Lists.{pick, all_of}
use Rattle.base.specs.Checks.{Check, refusal, passes, Answer, refused, answered, checked}
use Rattle.base.proofs.Tests.{and_left, and_right}

-- a refusal is at most the greatest of its numbers
pub refusal_most : (m : ℕ) (ks : List Check) → all_of (λ k. leb k.number m) ks ≡ true → refusal ks ≤ m
unfolding refusal all_of
refusal_most m [] h = omega arith
refusal_most m (k ∷ ks) h = go k.applies (leb-true k.number m (and_left (leb k.number m) _ h)) (refusal_most m ks (and_right (leb k.number m) _ h))
  where
    go : (t : Bool) → k.number ≤ m → refusal ks ≤ m → pick t k.number (refusal ks) ≤ m
    go true l r = l
    go false l r = r

pub checked_most : {A : Type 0} (m : ℕ) (ks : List Check) (a : A) (n : ℕ) → all_of (λ k. leb k.number m) ks ≡ true → checked ks a ≡ refused n → n ≤ m
unfolding checked
checked_most {A} m ks a n h e = go (passes ks) e
  where
    go : (t : Bool) → ◌≡◌ {A = Answer A} (pick t (answered a) (refused (refusal ks))) (refused n) → n ≤ m
    go true e = let z : ◌≡◌ {A = ℕ} 0 1 = cc in absurd (omega arith)
    go false e = let z : refusal ks ≡ n = cc in omega (arith, refusal_most m ks h)
