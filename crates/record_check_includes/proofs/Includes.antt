-- The checks of includes by index, as code makes them, and the authors of those at the round before. Assumes nothing.
use mathlib.Core.Path.{◌≡◌, refl}
use mathlib.Core.Bool.{Bool, true, false}
use mathlib.Core.List.{List, [], ◌∷◌, map, flatten}
use Prim.Native.Nat.{ℕ, zero, suc, ◌+◌, ◌-◌, ◌≤◌, ◌<◌}
use native.Mathlib.Numerals.{add-one, sub-one}
use native.Mathlib.Omega.{arith}
use lib.Dec.{eqb, ltb, leb, lit<}
use lib.ListN.{length, get_or, drop, drop_of_length-le}
use lib.Seq.{drop-cons}
use borrow.Author.Tests.{le-leb, lt-leb, ltb-true, leb-false, not-false}
use Rattle.base.specs.Lists.{pick, keep}
use Rattle.base.specs.Checks.{refusal, passes}
use Rattle.base.proofs.Lists.{none_of, and, every_one, every_flatten}
use Rattle.base.proofs.Checks.{passes_first, passes_others, passes_left, passes_right}
use Rattle.base.proofs.Refusals.{Numbered}
use Rattle.committee.specs.Committee.{AuthorityIndex, Committee, known, get_stake}
use Rattle.committee_set.specs.AuthoritySet.{nobody, inserted, set_of}
use Rattle.committee.specs.Answers.{found_stake}
use Rattle.committee.specs.declared.Stake as stakes
use Rattle.record_spec.specs.Reference.{BlockReference}
use Rattle.record_spec.specs.Block.{Block}
use Rattle.record_spec.specs.Record.{no_reference}
use Rattle.record_spec.specs.Verify.{include_checks, previous_authors}
use Rattle.std.specs.Prelude.{None, Some}

-- ---- the lookup of a stake

pub lookup_known : (c : Committee) (a : AuthorityIndex) (s : stakes.Stake) → found_stake c a ≡ Some s → known c a ≡ true
unfolding found_stake
lookup_known c a s h = go (known c a) h
  where
    go : (t : Bool) → pick t (Some (record { 0 = get_stake c a })) None ≡ Some s → t ≡ true
    go true e = refl
    go false e = absurd (let z : ◌≡◌ {A = ℕ} 0 1 = cc in omega arith)

-- ---- 24 and 25

-- an include that passes
known_lower : (c : Committee) (b : Block) (i : BlockReference) → passes (include_checks c b i) ≡ true → (i.authority < length c) ×
    (i.round < b.reference.round)
unfolding include_checks known
known_lower c b i h =
    let low : leb b.reference.round i.round ≡ false = passes_first _ _ (passes_others _ _ h) in
    (ltb-true i.authority (length c) (not-false (ltb i.authority (length c)) (passes_first _ _ h)), leb-false b.reference.round i.round low)

module _ (c : Committee) (b : Block) where
  -- the refusal of includes
  unfoldable pub of_includes : List BlockReference → ℕ
  of_includes is = refusal (flatten (map (include_checks c b) is))

  module _ (is : List BlockReference) (k : ℕ) where
    pub include_unknown : k < length is → known c (get_or is k no_reference).authority ≡ false → of_includes (drop k is) ≡ 24
    unfolding of_includes include_checks refusal flatten
    include_unknown h e = rw (drop-cons is k no_reference h, e)

    pub include_high : k < length is → known c (get_or is k no_reference).authority ≡ true → b.reference.round ≤ (get_or is k no_reference).round → of_includes
        (drop k is) ≡ 25
    unfolding of_includes include_checks refusal flatten
    include_high h e l = rw (drop-cons is k no_reference h, e, le-leb b.reference.round (get_or is k no_reference).round l)

    pub include_on : k < length is → known c (get_or is k no_reference).authority ≡ true → (get_or is k no_reference).round < b.reference.round → of_includes
        (drop k is) ≡ of_includes (drop (k + 1) is)
    unfolding of_includes include_checks refusal flatten
    include_on h e l = rw (add-one, drop-cons is k no_reference h, e, lt-leb b.reference.round (get_or is k no_reference).round l)

    pub include_end : length is ≤ k → of_includes (drop k is) ≡ 0
    unfolding of_includes refusal flatten
    include_end h = rw (drop_of_length-le is h)

  pub includes_numbered : (is : List BlockReference) → Numbered (flatten (map (include_checks c b) is))
  unfolding include_checks
  includes_numbered is = every_flatten {P = λ i. Unit {0}} (include_checks c b) (λ i u. and (lit< tt) (and (lit< tt) none_of)) is (every_one (λ i. tt) is)

  -- where includes pass, each author is known and each round lower
  pub include_passes : (is : List BlockReference) (k : ℕ) → passes (flatten (map (include_checks c b) is)) ≡ true → k < length is
      → ((get_or is k no_reference).authority < length c) × ((get_or is k no_reference).round < b.reference.round)
  unfolding flatten
  include_passes [] k h l = absurd (omega arith)
  include_passes (i ∷ is) zero h l = known_lower c b i (passes_left (include_checks c b i) (flatten (map (include_checks c b) is)) h)
  include_passes (i ∷ is) (suc k) h l = include_passes is k (passes_right (include_checks c b i) (flatten (map (include_checks c b) is)) h) (omega arith)

-- ---- the clock

one_more : (b : Block) (is : List BlockReference) (i : BlockReference) (js : List BlockReference) → js ≡ i ∷ is
    → previous_authors b js ≡ pick (eqb (i.round + 1) b.reference.round) (inserted (previous_authors b is) i.authority) (previous_authors b is)
unfolding previous_authors set_of keep
one_more b is i js e = rw e (go (eqb (i.round + 1) b.reference.round))
  where
    go : (t : Bool) → set_of (map (λ j. j.authority) (pick t (i ∷ keep (λ j. eqb (j.round + 1) b.reference.round) is)
        (keep (λ j. eqb (j.round + 1) b.reference.round) is)))
        ≡ pick t (inserted (set_of (map (λ j. j.authority) (keep (λ j. eqb (j.round + 1) b.reference.round) is))) i.authority)
        (set_of (map (λ j. j.authority) (keep (λ j. eqb (j.round + 1) b.reference.round) is)))
    go true = refl
    go false = refl

module _ (b : Block) (is : List BlockReference) where
  -- one include before those that are counted already
  pub authors_on : (k : ℕ) → 0 < k → k ≤ length is
      → previous_authors b (drop (k - 1) is)
      ≡ pick (eqb ((get_or is (k - 1) no_reference).round + 1) b.reference.round)
      (inserted (previous_authors b (drop k is)) (get_or is (k - 1) no_reference).authority) (previous_authors b (drop k is))
  authors_on zero h l = absurd (omega arith)
  authors_on (suc k) h l = rw (sub-one (suc k)) (step k (omega arith))
    where
      step : (k : ℕ) → k < length is → previous_authors b (drop k is)
          ≡ pick (eqb ((get_or is k no_reference).round + 1) b.reference.round)
          (inserted (previous_authors b (drop (suc k) is)) (get_or is k no_reference).authority) (previous_authors b (drop (suc k) is))
      step k l = one_more b (drop (suc k) is) (get_or is k no_reference) (drop k is) (drop-cons is k no_reference l)

  pub authors_none : (k : ℕ) → length is ≤ k → previous_authors b (drop k is) ≡ nobody
  unfolding previous_authors set_of keep
  authors_none k h = rw (drop_of_length-le is h)
