-- Statements and nothing after them, as code tests it. Assumes nothing.
use mathlib.Core.Path.{◌≡◌, refl, ap}
use mathlib.Core.List.{List, [], ◌∷◌}
use mathlib.Core.Option.{Option, none, some}
use mathlib.Core.Bool.{Bool, true, false, not}
use Prim.Native.Nat.{ℕ, zero, suc, ◌-◌, ◌≤◌, ◌<◌}
use native.Mathlib.Numerals.{sub-one}
use native.Mathlib.Omega.{arith}
use lib.Dec.{eqb}
use lib.ListN.{length, drop}
use Rattle.base.specs.Lists.{pick, is_empty, is_none}
use Rattle.base.specs.Read.{Part, Read, give, onward, ◌>>=◌, repeated, complete}
use Rattle.base.proofs.Fixed.{empty_drop}
use Rattle.record_spec.specs.Block.{Statement}
use Rattle.record_spec.specs.Record.{read_statement}
use Rattle.record_statement.specs.Step.{statements_only}

-- all of it is read
abbrev pub Whole : {A : Type 0} → Option (Part A) → Bool
Whole o = not (is_none (complete o))

module _ {A B : Type 0} where
  -- what is made of the value does not matter
  pub whole_map : (m : Read A) (f : A → B) (s : List ℕ) → Whole ((m >>= (λ a. give (f a))) s) ≡ Whole (m s)
  unfolding complete is_none ◌>>=◌ onward give
  whole_map m f s = go (m s)
    where
      ends : (t : Bool) (a : A) → is_none (pick t (some (f a)) none) ≡ is_none (pick t (some a) none)
      ends true a = refl
      ends false a = refl

      go : (o : Option (Part A)) → Whole (onward o (λ a. give (f a))) ≡ Whole o
      go none = refl
      go (some p) = ap not (ends (is_empty p.rest) p.value)

pub only_on : (n : ℕ) (s : List ℕ) (p : Part Statement) → 0 < n → read_statement s ≡ some p → statements_only n s ≡ statements_only (n - 1) p.rest
unfolding statements_only repeated ◌>>=◌ onward
only_on zero s p h e = absurd (omega arith)
only_on (suc n) s p h e = rw (sub-one (suc n), e) (whole_map (repeated n read_statement) (λ rest. p.value ∷ rest) p.rest)

pub only_stop : (n : ℕ) (s : List ℕ) → 0 < n → read_statement s ≡ none → statements_only n s ≡ false
unfolding statements_only repeated ◌>>=◌ onward complete is_none
only_stop zero s h e = absurd (omega arith)
only_stop (suc n) s h e = rw e

pub only_done : (n : ℕ) (s : List ℕ) (p : ℕ) → n ≤ 0 → p ≤ length s → statements_only n (drop p s) ≡ eqb p (length s)
unfolding statements_only repeated give complete is_none
only_done zero s p h k = rw (empty_drop s p k) (go (eqb p (length s)))
  where
    go : (t : Bool) → not (is_none (pick {A = Option (List Statement)} t (some []) none)) ≡ t
    go true = refl
    go false = refl
only_done (suc n) s p h k = absurd (omega arith)
