-- The form of the list: whole locators that ascend. Assumes nothing.
use mathlib.Core.Path.{◌≡◌, sym, ap, subst, ◌∙◌}
use mathlib.Core.Bool.{Bool, true, false, not}
use mathlib.Core.List.{List, ◌∷◌}
use mathlib.Core.Option.{none, some}
use Prim.Native.Nat.{ℕ, ◌+◌, ◌-◌, ◌*◌, ◌/◌, ◌%◌, ◌≤◌, ◌<◌}
use native.Mathlib.Omega.{arith}
use native.Mathlib.Numerals.{add-one}
use native.Mathlib.Decide.{dec_lt, ℕ_discrete}
use lib.ListN.{length, get_or, drop}
use lib.Seq.{drop-cons}
use borrow.Author.Tests.{eq-eqb, ne_eqb, not-true}
use Rattle.base.specs.Lists.{holds}
use Rattle.base.specs.Le.{Bytes}
use Rattle.base.specs.Read.{complete}
use Rattle.base.proofs.Tests.{fails, not_both}
use Rattle.base.proofs.Lists.{pairwise_pairs, pairs_pairwise}
use Rattle.base.proofs.Places.{pairs_places}
use Rattle.base.proofs.Index.{at_pairs}
use Rattle.base.proofs.Fixed.{values_of, fixed_repeated, length_values_of, get_d_values_of, empty_drop}
use Rattle.record_spec.specs.Reference.{TransactionLocator, locator, locator_before}
use Rattle.record_spec.specs.Record.{read_locator, no_reference}
use Rattle.record_spec.proofs.References.{not_before_trans}
use Rattle.record_reference_bytes.specs.Step.{locator_at}
use Rattle.record_reference_bytes.proofs.Fixed.{fixed_locator, locator_value}
use Rattle.sorted_spec.specs.Sorted.{sorted_locators, locators_of, list_of, asked}
use Rattle.sorted_step.specs.Step.{Listed}

-- the locator of an index
abbrev pub at : Bytes → ℕ → TransactionLocator
at bytes i = locator_at bytes (56 * i)

-- the locators that bytes are
list : Bytes → List TransactionLocator
list bytes = values_of (length bytes / 56) 56 fixed_locator.value bytes

no_locator : TransactionLocator
no_locator = locator no_reference 0

whole_list : (bytes : Bytes) → length bytes % 56 ≡ 0 → locators_of bytes ≡ some (list bytes)
unfolding locators_of complete list fixed_repeated
whole_list bytes h =
    let n : ℕ = length bytes / 56 in
    let F = fixed_repeated read_locator 56 fixed_locator n in
    rw (F.reads bytes (omega arith), empty_drop bytes (n * 56) (omega arith), eq-eqb (n * 56) (length bytes) (omega arith))

cut_list : (bytes : Bytes) → (length bytes % 56 ≡ 0 → ⊥) → locators_of bytes ≡ none
unfolding locators_of complete fixed_repeated
cut_list bytes h =
    let n : ℕ = length bytes / 56 in
    let F = fixed_repeated read_locator 56 fixed_locator n in
    rw (F.reads bytes (omega arith), empty_drop bytes (n * 56) (omega arith), ne_eqb (n * 56) (length bytes) (λ e. h (omega arith)))

length_list : (bytes : Bytes) → length (list bytes) ≡ length bytes / 56
unfolding list
length_list bytes = length_values_of 56 fixed_locator.value (length bytes / 56) bytes

list_at : (bytes : Bytes) (i : ℕ) → i < length bytes / 56 → get_or (list bytes) i no_locator ≡ at bytes i
unfolding list
list_at bytes i h =
    let e : i * 56 ≡ 56 * i = omega arith in
    get_d_values_of 56 fixed_locator.value (length bytes / 56) bytes i no_locator h ∙ locator_value bytes (i * 56) ∙ ap (locator_at bytes) e

-- ---- in order

-- the first i locators ascend
unfoldable pub Rising : Bytes → ℕ → Type 0
Rising bytes i = (j k : ℕ) → j < k → k < i → locator_before (at bytes k) (at bytes j) ≡ false

pub rising_start : (bytes : Bytes) → Rising bytes 1
unfolding Rising
rising_start bytes j k h m = absurd (omega arith)

pub rising_next : (bytes : Bytes) (i : ℕ) → 0 < i → Rising bytes i → locator_before (at bytes i) (at bytes (i - 1)) ≡ false → Rising bytes (i + 1)
unfolding Rising
rising_next bytes i p r e j k h m = go (dec_lt k i) (dec_lt j (i - 1))
  where
    go : Dec (k < i) → Dec (j < i - 1) → locator_before (at bytes k) (at bytes j) ≡ false
    go (yes a) b = r j k h a
    go (no a) (yes b) =
        let q : i ≡ k = omega arith in
        subst (λ (x : ℕ). locator_before (at bytes x) (at bytes j) ≡ false) q
        (not_before_trans (at bytes j) (at bytes (i - 1)) (at bytes i) (r j (i - 1) b (omega arith)) e)
    go (no a) (no b) =
        let q : i ≡ k = omega arith in
        let s : i - 1 ≡ j = omega arith in
        subst (λ (x : ℕ). locator_before (at bytes x) (at bytes j) ≡ false) q (subst (λ (x : ℕ). locator_before (at bytes i) (at bytes x) ≡ false) s e)

module _ (bytes : Bytes) where
  pub sorted_cut : (length bytes % 56 ≡ 0 → ⊥) → holds sorted_locators (locators_of bytes) ≡ false
  unfolding holds
  sorted_cut h = rw (cut_list bytes h)

  module _ (h : length bytes % 56 ≡ 0) where
    pub sorted_yes : (i : ℕ) → length bytes / 56 ≤ i → Rising bytes i → holds sorted_locators (locators_of bytes) ≡ true
    unfolding holds sorted_locators Rising
    sorted_yes i n r =
        rw (whole_list bytes h)
        (pairs_pairwise (λ l m. not (locator_before m l)) (list bytes)
        (at_pairs no_locator (list bytes) (λ j k (a : j < k) (b : k < length (list bytes)).
        let z = length_list bytes in
        rw (list_at bytes j (omega arith), list_at bytes k (omega arith), r j k a (omega arith)))))

    sorted_pairs : holds sorted_locators (locators_of bytes) ≡ true → (j k : ℕ) → j < k → k < length bytes / 56 → locator_before (at bytes k) (at bytes j)
        ≡ false
    unfolding holds sorted_locators
    sorted_pairs t j k a b =
        let z = length_list bytes in
        let p = pairs_places no_locator (list bytes) j k (pairwise_pairs (λ l m. not (locator_before m l)) (list bytes) (rw (whole_list bytes h) at t)) a
        (omega arith) in
        not-true _ (rw (list_at bytes j (omega arith), list_at bytes k b) at p)

    pub sorted_no : (i : ℕ) → 0 < i → i < length bytes / 56 → locator_before (at bytes i) (at bytes (i - 1)) ≡ true → holds sorted_locators (locators_of bytes)
        ≡
        false
    sorted_no i p n e = fails (holds sorted_locators (locators_of bytes)) (λ t. not_both e (sorted_pairs t (i - 1) i (omega arith) n))

    asked_list : asked bytes ≡ list bytes
    unfolding asked list_of
    asked_list = ap list_of (whole_list bytes h)

    list_told : (i : ℕ) → i < length (list bytes) → drop i (list bytes) ≡ at bytes i ∷ drop (i + 1) (list bytes)
    list_told i k =
        let z = length_list bytes in
        drop-cons (list bytes) i no_locator k
        ∙ ap (λ (n : ℕ). get_or (list bytes) i no_locator ∷ drop n (list bytes)) (sym (add-one i))
        ∙ ap (λ (l : TransactionLocator). l ∷ drop (i + 1) (list bytes)) (list_at bytes i (omega arith))

    listed_whole : holds sorted_locators (locators_of bytes) ≡ true → Listed bytes (list bytes)
    listed_whole t =
        let z = length_list bytes in
        record { whole = omega arith; told = list_told; sorted = λ i k a b. sorted_pairs t i k a (omega arith) }

  -- the bytes of a sorted list
  pub listed : holds sorted_locators (locators_of bytes) ≡ true → Listed bytes (asked bytes)
  listed t = go (ℕ_discrete (length bytes % 56) 0)
    where
      go : Dec (length bytes % 56 ≡ 0) → Listed bytes (asked bytes)
      go (no h) = absurd (not_both t (sorted_cut h))
      go (yes h) = subst (Listed bytes) (sym (asked_list h)) (listed_whole h t)

-- a test of two locators that were read
pub compared : {t u : Bool} {l m l₁ m₁ : TransactionLocator} → t ≡ locator_before l m → l ≡ l₁ → m ≡ m₁ → t ≡ u → locator_before l₁ m₁ ≡ u
compared {t} {u} {l} {m} {l₁} {m₁} h e f k = sym (ap (locator_before l₁) f) ∙ sym (ap (λ (x : TransactionLocator). locator_before x m) e) ∙ sym h ∙ k
