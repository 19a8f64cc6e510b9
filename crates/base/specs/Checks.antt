-- Refusals: tests with their numbers, in the order in which they are checked. Assumes nothing: these are definitions.
use Rattle.std.specs.Prelude.{ℕ, Bool, not, List, [], ◌∷◌}
use Rattle.base.specs.Lists.{pick, all_of}

-- a test, and the number that is sent back where it holds
pub record Check : Type 0 where
  pub applies : Bool
  pub number : ℕ

infix 20 ◌⇒◌
abbrev pub ◌⇒◌ : Bool → ℕ → Check
t ⇒ n = record { applies = t; number = n }

-- the first refusal number that applies; 0 where none does
unfoldable pub refusal : List Check → ℕ
refusal [] = 0
refusal (k ∷ ks) = pick k.applies k.number (refusal ks)

-- no refusal applies
unfoldable pub passes : List Check → Bool
passes ks = all_of (λ k. not k.applies) ks

-- what a call answers: a refusal number or a value
pub data Answer (A : Type 0) : Type 0 where
  refused : ℕ → Answer A
  answered : A → Answer A

-- the first refusal that applies, else the value
unfoldable pub checked : {A : Type 0} → List Check → A → Answer A
checked ks a = pick (passes ks) (answered a) (refused (refusal ks))
