-- One include more: the least distance so far as a word, and the first place that has it. Assumes nothing.
use mathlib.Core.Path.{◌≡◌, refl, sym, ap, ◌∙◌}
use mathlib.Core.Bool.{Bool, true, false}
use mathlib.Core.List.{List, [], ◌∷◌, ◌++◌, map, map-append}
use mathlib.Core.Option
use mathlib.Core.Option.{Option, none, some, none-ne-some, some-injective}
use Prim.Native.Nat.{ℕ, suc, ◌+◌, ◌<◌}
use native.Mathlib.Omega.{arith}
use native.Mathlib.Decide.{dec_lt}
use lib.Dec.{ltb}
use lib.ListN.{length}
use borrow.Author.Tests.{lt-ltb, le-ltb, eq-eqb, ne_eqb}
use Rattle.base.specs.Lists.{pick, any_of, holds}
use Rattle.base.proofs.Members.{in_any, map_in}
use Rattle.slip_spec.specs.Paths.{lesser_distance, least_distance, is_away, first_place}
use Rattle.slip_spec.proofs.Distances.{least_found}
use Rattle.slip_spec.proofs.Coding.{least_more, place_stays, place_new}
use Rattle.slip_write_distances.specs.Near.{word}
use Rattle.slip_write_rows.specs.Rows.{is_nearer}

-- ---- the tests of the words

nearer_none : (m : ℕ) → is_nearer 0 m ≡ false
unfolding is_nearer
nearer_none m = refl

nearer_new : (n : ℕ) → is_nearer (suc n) 0 ≡ true
unfolding is_nearer
nearer_new n = rw (ne_eqb (suc n) 0 (λ (e : suc n ≡ 0). omega arith))

nearer_than : (n m : ℕ) → is_nearer (suc n) (suc (suc m)) ≡ ltb n m
unfolding is_nearer
nearer_than n m = rw (ne_eqb (suc n) 0 (λ (e : suc n ≡ 0). omega arith), ne_eqb (suc (suc m)) 0 (λ (e : suc (suc m) ≡ 0). omega arith)) (go (dec_lt n m))
  where
    go : Dec (n < m) → ltb (suc n + 1) (suc (suc m)) ≡ ltb n m
    go (yes h) = lt-ltb (suc n + 1) (suc (suc m)) (omega arith) ∙ sym (lt-ltb n m h)
    go (no h) = le-ltb (suc n + 1) (suc (suc m)) (omega arith) ∙ sym (le-ltb n m (omega arith))

-- the lesser distance as a word
pub nearer_word : (o d : Option ℕ) → pick (is_nearer (word d) (word (Option.map suc o))) (word d + 1) (word (Option.map suc o)) ≡ word
    (Option.map suc (lesser_distance o d))
unfolding word lesser_distance
nearer_word none none = rw (nearer_none 0)
nearer_word (some m) none = rw (nearer_none (suc (suc m)))
nearer_word none (some n) = rw (nearer_new n) (omega arith)
nearer_word (some m) (some n) = rw (nearer_than n m) (go (ltb n m))
  where
    go : (t : Bool) → pick t (suc n + 1) (suc (suc m)) ≡ word (Option.map suc (pick t (some n) (some m)))
    go true = omega arith
    go false = refl

-- ---- the first place

is_away_lem : (m : ℕ) → is_away m (some m) ≡ true
unfolding is_away holds
is_away_lem m = eq-eqb m m refl

not_away : (m : ℕ) (o : Option ℕ) → ((k : ℕ) → o ≡ some k → m < k) → is_away m o ≡ false
unfolding is_away holds
not_away m none f = refl
not_away m (some k) f = ne_eqb k m (λ (e : k ≡ m). omega (arith, f k refl))

lesser_both : (m : ℕ) (o q : Option ℕ) → ((k : ℕ) → lesser_distance o q ≡ some k → m < k) → ((k : ℕ) → o ≡ some k → m < k) × ((k : ℕ) → q ≡ some k → m < k)
unfolding lesser_distance
lesser_both m none q f = (λ k e. absurd (none-ne-some k e), f)
lesser_both m (some i) none f = (f, λ k e. absurd (none-ne-some k e))
lesser_both m (some i) (some j) f = go (dec_lt j i)
  where
    go : Dec (j < i) → ((k : ℕ) → some i ≡ some k → m < k) × ((k : ℕ) → some j ≡ some k → m < k)
    go (yes h) =
        let l : m < j = f j (rw (lt-ltb j i h)) in
        (λ k e. let q : i ≡ k = some-injective _ _ e in omega arith, λ k e. let q : j ≡ k = some-injective _ _ e in omega arith)
    go (no h) =
        let l : m < i = f i (rw (le-ltb j i (omega arith))) in
        (λ k e. let q : i ≡ k = some-injective _ _ e in omega arith, λ k e. let q : j ≡ k = some-injective _ _ e in omega arith)

module _ {A : Type 0} (D : A → Option ℕ) where
  -- where the least is farther, none is that near
  none_near : (m : ℕ) (xs : List A) → ((k : ℕ) → least_distance (map D xs) ≡ some k → m < k) → any_of (λ x. is_away m (D x)) xs ≡ false
  unfolding least_distance any_of
  none_near m [] f = refl
  none_near m (x ∷ xs) f = let b = lesser_both m (D x) (least_distance (map D xs)) f in
      rw (not_away m (D x) b.0) (none_near m xs b.1)

  -- the least is there
  pub some_near : (m : ℕ) (xs : List A) → least_distance (map D xs) ≡ some m → any_of (λ x. is_away m (D x)) xs ≡ true
  some_near m xs e = let x = map_in D xs (least_found (map D xs) m e) in
      in_any (λ y. is_away m (D y)) x.1 (ap (is_away m) x.2 ∙ is_away_lem m)

  pub least_next : (xs : List A) (x : A) → least_distance (map D (xs ++ (x ∷ []))) ≡ lesser_distance (least_distance (map D xs)) (D x)
  least_next xs x = ap least_distance (map-append D xs (x ∷ [])) ∙ least_more (map D xs) (D x)

  pub first_next : (xs : List A) (x : A) (j p : ℕ) → j ≡ length xs → ((m : ℕ) → least_distance (map D xs) ≡ some m → p ≡ first_place (λ y. is_away m (D y)) xs)
      → (m : ℕ) → least_distance (map D (xs ++ (x ∷ []))) ≡ some m
      → pick (is_nearer (word (D x)) (word (Option.map suc (least_distance (map D xs))))) j p ≡ first_place (λ y. is_away m (D y)) (xs ++ (x ∷ []))
  unfolding lesser_distance word
  first_next xs x j p n f m e = go (least_distance (map D xs)) (D x) refl refl (sym (least_next xs x) ∙ e)
    where
      stays : least_distance (map D xs) ≡ some m → p ≡ first_place (λ y. is_away m (D y)) (xs ++ (x ∷ []))
      stays h = f m h ∙ sym (place_stays (λ y. is_away m (D y)) xs (x ∷ []) (some_near m xs h))

      new : D x ≡ some m → ((k : ℕ) → least_distance (map D xs) ≡ some k → m < k) → j ≡ first_place (λ y. is_away m (D y)) (xs ++ (x ∷ []))
      new h g = n ∙ sym (place_new (λ y. is_away m (D y)) xs [] x (none_near m xs g) (ap (is_away m) h ∙ is_away_lem m))

      go : (o d : Option ℕ) → least_distance (map D xs) ≡ o → D x ≡ d → lesser_distance o d ≡ some m
          → pick (is_nearer (word d) (word (Option.map suc o))) j p ≡ first_place (λ y. is_away m (D y)) (xs ++ (x ∷ []))
      go none none a b h = absurd (none-ne-some m h)
      go (some k) none a b h = rw (nearer_none (suc (suc k))) (stays (a ∙ h))
      go none (some k) a b h = rw (nearer_new k) (new (b ∙ h) (λ i q. absurd (none-ne-some i (sym a ∙ q))))
      go (some k) (some i) a b h = rw (nearer_than i k) (split (dec_lt i k))
        where
          split : Dec (i < k) → pick (ltb i k) j p ≡ first_place (λ y. is_away m (D y)) (xs ++ (x ∷ []))
          split (yes q) =
              let t = lt-ltb i k q in
              let r : some i ≡ some m = sym (rw t) ∙ h in
              let z : i ≡ m = some-injective _ _ r in
              rw t (new (b ∙ r) (λ y g. let u : k ≡ y = some-injective _ _ (sym a ∙ g) in omega arith))
          split (no q) =
              let t = le-ltb i k (omega arith) in
              let r : some k ≡ some m = sym (rw t) ∙ h in
              rw t (stays (a ∙ r))
