-- Readers of a fixed number of bytes, and reading at a position, as code reads. Assumes nothing.
use mathlib.Core.Path.{◌≡◌, refl, sym, ap, ◌∙◌}
use mathlib.Core.List.{List, [], ◌∷◌}
use mathlib.Core.Option.{Option, none, some, some-injective, none-ne-some}
use Prim.Native.Nat.{ℕ, zero, suc, ◌+◌, ◌-◌, ◌*◌, ◌≤◌, ◌<◌}
use native.Mathlib.Nat.{suc-mul, zero-mul}
use native.Mathlib.Decide.{dec_le}
use native.Mathlib.Omega.{arith}
use lib.Dec.{eqb}
use lib.ListN.{length, get_or, take, drop, length-drop}
use lib.Seq.{drop-drop}
use borrow.Author.Tests.{le-leb, lt-leb, eq-eqb, ne_eqb}
use Rattle.base.specs.Lists.{pick, is_empty}
use Rattle.base.specs.Le.{le_number, le_at}
use Rattle.base.specs.Read.{Part, Read, give, onward, ◌>>=◌, items, number, repeated, complete}
use Rattle.base.proofs.Read.{part, bind_some}

-- a reader of exactly n bytes: it fails only where there are fewer
pub record Fixed {A : Type 0} (n : ℕ) (m : Read A) : Type 0 where
  pub value : List ℕ → A
  pub reads : (s : List ℕ) → n ≤ length s → m s ≡ some (part (value s) (drop n s))
  pub short : (s : List ℕ) → length s < n → m s ≡ none

unfoldable pub fixed_items : (n : ℕ) → Fixed n (items n)
unfolding items
fixed_items n =
    record { value = λ s. take n s; reads = λ s h. rw (le-leb n (length s) h); short = λ s h. rw (lt-leb n (length s) h) }

module _ {A B : Type 0} where
  unfoldable pub fixed_bind : (m : Read A) (f : A → Read B) (n k : ℕ) → Fixed n m → ((a : A) → Fixed k (f a)) → Fixed (n + k) (m >>= f)
  unfolding ◌>>=◌ onward
  fixed_bind m f n k F G = record { value = λ s. (G (F.value s)).value (drop n s); reads = reads; short = short }
    where
      reads : (s : List ℕ) → n + k ≤ length s → onward (m s) f ≡ some (part ((G (F.value s)).value (drop n s)) (drop (n + k) s))
      reads s h =
          rw (F.reads s (omega arith), (G (F.value s)).reads (drop n s) (omega (arith, length-drop n s)), drop-drop)

      short : (s : List ℕ) → length s < n + k → onward (m s) f ≡ none
      short s h = go (dec_le n (length s))
        where
          go : Dec (n ≤ length s) → onward (m s) f ≡ none
          go (yes e) = rw (F.reads s e, (G (F.value s)).short (drop n s) (omega (arith, length-drop n s)))
          go (no e) = rw (F.short s (omega arith))

  unfoldable pub fixed_map : (m : Read A) (f : A → B) (n : ℕ) → Fixed n m → Fixed n (m >>= (λ a. give (f a)))
  unfolding ◌>>=◌ onward give
  fixed_map m f n F =
      record { value = λ s. f (F.value s); reads = λ s h. rw (F.reads s h); short = λ s h. rw (F.short s h) }

unfoldable pub fixed_number : (n : ℕ) → Fixed n (number n)
unfolding number
fixed_number n = fixed_map (items n) le_number n (fixed_items n)

module _ {A : Type 0} where
  -- n values of k bytes each
  unfoldable pub values_of : ℕ → ℕ → (List ℕ → A) → List ℕ → List A
  values_of zero k v s = []
  values_of (suc n) k v s = v s ∷ values_of n k v (drop k s)

  unfoldable pub fixed_repeated : (m : Read A) (k : ℕ) → Fixed k m → (n : ℕ) → Fixed (n * k) (repeated n m)
  unfolding repeated ◌>>=◌ onward give values_of
  fixed_repeated m k F n = record { value = values_of n k F.value; reads = reads n; short = short n }
    where
      reads : (n : ℕ) (s : List ℕ) → n * k ≤ length s → repeated n m s ≡ some (part (values_of n k F.value s) (drop (n * k) s))
      reads zero s h = rw (zero-mul k)
      reads (suc n) s h =
          let e : suc n * k ≡ k + n * k = rw (suc-mul n k) (omega arith) in
          rw (e, F.reads s (omega arith), reads n (drop k s) (omega (arith, length-drop k s)), drop-drop)

      short : (n : ℕ) (s : List ℕ) → length s < n * k → repeated n m s ≡ none
      short zero s h = absurd (omega (arith, zero-mul k))
      short (suc n) s h = go (dec_le k (length s)) (short n (drop k s))
        where
          e : suc n * k ≡ k + n * k
          e = rw (suc-mul n k) (omega arith)

          go : Dec (k ≤ length s) → (length (drop k s) < n * k → repeated n m (drop k s) ≡ none) → onward (m s)
              (λ a. repeated n m >>= (λ rest. give (a ∷ rest))) ≡ none
          go (yes i) ih = rw (F.reads s i, ih (omega (arith, length-drop k s, e)))
          go (no i) ih = rw (F.short s (omega arith))

  module _ (k : ℕ) (v : List ℕ → A) where
    pub length_values_of : (n : ℕ) (s : List ℕ) → length (values_of n k v s) ≡ n
    unfolding values_of
    length_values_of zero s = refl
    length_values_of (suc n) s = ap suc (length_values_of n (drop k s))

    pub get_d_values_of : (n : ℕ) (s : List ℕ) (i : ℕ) (d : A) → i < n → get_or (values_of n k v s) i d ≡ v (drop (i * k) s)
    unfolding values_of
    get_d_values_of zero s i d h = absurd (omega arith)
    get_d_values_of (suc n) s zero d h = rw (zero-mul k)
    get_d_values_of (suc n) s (suc i) d h =
        let e : suc i * k ≡ k + i * k = rw (suc-mul i k) (omega arith) in
        rw (e, get_d_values_of n (drop k s) i d (omega arith), drop-drop)

-- ---- at least n bytes

-- a reader that fails where there are fewer than n bytes
abbrev pub Least : {A : Type 0} → ℕ → Read A → Type 0
Least n m = (s : List ℕ) → length s < n → m s ≡ none

pub least_zero : {A : Type 0} (m : Read A) → Least 0 m
least_zero m s h = absurd (omega arith)

module _ {A B : Type 0} where
  pub least_bind : (m : Read A) (f : A → Read B) (n k : ℕ) → Fixed n m → ((a : A) → Least k (f a)) → Least (n + k) (m >>= f)
  unfolding ◌>>=◌ onward
  least_bind m f n k F G s h = go (dec_le n (length s))
    where
      go : Dec (n ≤ length s) → onward (m s) f ≡ none
      go (yes e) = rw (F.reads s e, G (F.value s) (drop n s) (omega (arith, length-drop n s)))
      go (no e) = rw (F.short s (omega arith))

-- ---- at a position of a list

module _ {A : Type 0} (m : Read A) (n : ℕ) (F : Fixed n m) (s : List ℕ) (p : ℕ) where
  pub reads_at : p + n ≤ length s → m (drop p s) ≡ some (part (F.value (drop p s)) (drop (p + n) s))
  reads_at h = rw (F.reads (drop p s) (omega (arith, length-drop p s)), drop-drop)

  pub short_at : length s - p < n → m (drop p s) ≡ none
  short_at h = F.short (drop p s) (omega (arith, length-drop p s))

module _ (n : ℕ) (s : List ℕ) (p : ℕ) where
  pub items_at : p + n ≤ length s → items n (drop p s) ≡ some (part (take n (drop p s)) (drop (p + n) s))
  unfolding fixed_items
  items_at h = reads_at (items n) n (fixed_items n) s p h

  pub number_at : p + n ≤ length s → number n (drop p s) ≡ some (part (le_at n s p) (drop (p + n) s))
  unfolding le_at fixed_number fixed_map fixed_items
  number_at h = reads_at (number n) n (fixed_number n) s p h

pub empty_drop : (s : List ℕ) (p : ℕ) → p ≤ length s → is_empty (drop p s) ≡ eqb p (length s)
unfolding is_empty
empty_drop s p h = go (drop p s) refl
  where
    go : (t : List ℕ) → drop p s ≡ t → is_empty t ≡ eqb p (length s)
    go [] e = sym (eq-eqb p (length s) (omega (arith, length-drop p s, ap (λ (x : List ℕ). length x) e)))
    go (x ∷ xs) e = sym (ne_eqb p (length s) (λ (i : p ≡ length s). omega (arith, length-drop p s, ap (λ (x : List ℕ). length x) e)))

-- ---- back from what was read

module _ {A B : Type 0} where
  pub map_some : (m : Read A) (f : A → B) (s : List ℕ) (b : B) (t : List ℕ) → (m >>= (λ a. give (f a))) s ≡ some (part b t)
      → (a : A) × ((m s ≡ some (part a t)) × (f a ≡ b))
  unfolding ◌>>=◌ onward give
  map_some m f s b t h = go (m s) refl h
    where
      go : (o : Option (Part A)) → m s ≡ o → onward o (λ a. give (f a)) ≡ some (part b t) → (a : A) × ((m s ≡ some (part a t)) × (f a ≡ b))
      go none e k = absurd (none-ne-some _ k)
      go (some q) e k =
          let i : part (f q.value) q.rest ≡ part b t = some-injective _ _ k in
          (q.value, (rw (e, ← ap (λ (x : Part B). x.rest) i), ap (λ (x : Part B). x.value) i))

pub complete_some : {A : Type 0} (o : Option (Part A)) (a : A) → complete o ≡ some a → o ≡ some (part a [])
unfolding complete is_empty
complete_some none a h = absurd (none-ne-some a h)
complete_some {A} (some q) a h = go q.rest refl h
  where
    go : (t : List ℕ) → q.rest ≡ t → pick (is_empty t) (some q.value) none ≡ some a → some q ≡ some (part a [])
    go [] e k = rw (← e, ← some-injective _ _ k)
    go (x ∷ xs) e k = absurd (none-ne-some a k)

-- n things were read
pub repeated_length : {A : Type 0} (m : Read A) (n : ℕ) (s : List ℕ) (p : Part (List A)) → repeated n m s ≡ some p → length p.value ≡ n
unfolding repeated give
repeated_length {A} m zero s p h = sym (ap (λ (q : Part (List A)). length q.value) (some-injective (part [] s) p h))
repeated_length {A} m (suc n) s p h =
    let q = bind_some m (λ a. repeated n m >>= (λ rest. give (a ∷ rest))) s p h in
    let r = bind_some (repeated n m) (λ rest. give (q.0.value ∷ rest)) q.0.rest p q.2 in
    sym (ap (λ (z : Part (List A)). length z.value) (some-injective (part (q.0.value ∷ r.0.value) r.0.rest) p r.2)) ∙ ap suc
    (repeated_length m n q.0.rest r.0 r.1)
