-- Locators as bytes, and the numbers of the questions about one. Assumes nothing.
use mathlib.Core.Path.{◌≡◌, ap}
use mathlib.Core.Bool.{Bool, true, false}
use mathlib.Core.List.{List, [], ◌∷◌, ◌++◌}
use mathlib.Core.Option.{none, some}
use Prim.Native.Nat.{ℕ, ◌≤◌, ◌<◌}
use native.Mathlib.Decide.{dec_lt}
use native.Mathlib.Omega.{arith}
use lib.ListN.{length, drop, length-drop, drop_of_length-le}
use borrow.Author.Tests.{le-leb}
use Rattle.base.specs.Lists.{pick, is_empty, all_of}
use Rattle.base.specs.Read.{complete}
use Rattle.base.specs.Checks.{◌⇒◌, refusal}
use Rattle.base.proofs.Fixed.{reads_at, short_at}
use Rattle.base.proofs.Lists.{is_empty_false}
use Rattle.committee.specs.Committee.{Committee, broken}
use Rattle.record_spec.specs.Record.{read_locator}
use Rattle.record_reference_bytes.specs.Step.{locator_at}
use Rattle.record_reference_bytes.proofs.Fixed.{fixed_locator, locator_value}
use Rattle.store_spec.specs.Store.{store_in_order}
use Rattle.host_locators.specs.Locators.{locator_of, store_checks, refusal_before}
use Rattle.host_calls.proofs.Numbers.{refusal_most}

-- 56 bytes are a locator
pub locator_read : (b : List ℕ) → length b ≡ 56 → locator_of b ≡ some (locator_at b 0)
unfolding locator_of complete is_empty
locator_read b e = rw (reads_at read_locator 56 fixed_locator b 0 (omega arith), locator_value b 0, drop_of_length-le b {i = 56} (omega arith))

-- bytes of any other length are none
pub locator_none : (b : List ℕ) → (length b ≡ 56 → ⊥) → locator_of b ≡ none
unfolding locator_of complete is_empty
locator_none b h = by (dec_lt (length b) 56)
  where
    by : Dec (length b < 56) → complete (read_locator b) ≡ none
    by (yes k) = rw (short_at read_locator 56 fixed_locator b 0 (omega arith))
    by (no k) = rw (reads_at read_locator 56 fixed_locator b 0 (omega arith))
        (ap (λ (t : Bool). pick t (some (fixed_locator.value b)) none) (is_empty_false (drop 56 b) (omega (arith, length-drop 56 b))))

-- ---- numbers

module _ (n : ℕ) (c : Committee) (s : List ℕ) where
  pub before_broken : broken c ≡ true → refusal_before n c s ≡ 5
  unfolding refusal_before store_checks refusal
  before_broken h = rw h

  pub before_disordered : broken c ≡ false → store_in_order c s ≡ false → refusal_before n c s ≡ 10
  unfolding refusal_before store_checks refusal
  before_disordered h k = rw (h, k)

  pub before_lent : broken c ≡ false → store_in_order c s ≡ true → refusal_before n c s ≡ n
  unfolding refusal_before store_checks refusal
  before_lent h k = rw (h, k)

-- it is at most 41 where that number is
pub before_most : (n : ℕ) (c : Committee) (s : List ℕ) → n ≤ 41 → refusal_before n c s ≤ 41
unfolding refusal_before store_checks all_of
before_most n c s h = refusal_most 41 (store_checks c s ++ ((true ⇒ n) ∷ [])) (rw (le-leb n 41 h))
