-- Names: zero padded and not empty, and names that differ. Assumes nothing.
use mathlib.Core.Path.{◌≡◌, refl, sym, ap, ◌∙◌}
use mathlib.Core.Logic.{◌⊎◌, inl, inr, ◌↔◌}
use mathlib.Core.Bool.{true, false, not, ◌&&◌, true≢false}
use mathlib.Core.List.{List, [], ◌∷◌, ◌++◌, map}
use Prim.Native.Nat.{ℕ, zero, suc}
use native.Mathlib.Decide.{ℕ_discrete}
use lib.Dec.{eqb}
use lib.ListN.{length, get_or, replicate}
use borrow.Author.Tests.{eq-eqb, ne_eqb, eqb-true, eqb-false, not-true}
use Rattle.base.specs.Lists.{is_empty, all_of, pairwise, same, ◌∈◌, here, there, Once, also}
use Rattle.base.specs.Le.{Bytes}
use Rattle.base.proofs.Tests.{fails, not_both, and_both, and_left, and_right}
use Rattle.base.proofs.Members.{in_empty, in_cases, in_map, map_in, all_in, in_all}
use Rattle.base.proofs.Lists.{is_empty_true}
use Rattle.base.proofs.Orders.{same_refl, same_true}
use Rattle.stakes_names.specs.Names.{name_at, Named, padded, good_name, WellNamed, good_names}
use Rattle.stakes_names.specs.Claims.{NameMeant, NamesMeant, Claims}

-- ---- one name

all_zero : (xs : Bytes) → all_of (λ y. eqb y 0) xs ≡ true → xs ≡ replicate (length xs) 0
unfolding all_of
all_zero [] h = refl
all_zero (x ∷ xs) h = rw (eqb-true x 0 (and_left (eqb x 0) _ h)) (ap {B = Bytes} (λ l. 0 ∷ l) (all_zero xs (and_right (eqb x 0) _ h)))

zero_all : (n : ℕ) → all_of (λ y. eqb y 0) (replicate n 0) ≡ true
unfolding all_of
zero_all zero = refl
zero_all (suc n) = rw (eq-eqb 0 0 refl) (zero_all n)

-- a text without zeros, and zeros
record Split (n : Bytes) : Type 0 where
  text : Bytes
  zeros : ℕ
  are : n ≡ text ++ replicate zeros 0
  no_zero : (x : ℕ) → x ∈ text → x ≡ 0 → ⊥

padded_split : (n : Bytes) → padded n ≡ true → Split n
unfolding padded
padded_split [] h = record { text = []; zeros = 0; are = refl; no_zero = λ x m. absurd (in_empty m) }
padded_split (x ∷ xs) h = go (ℕ_discrete x 0) (λ k. padded_split xs k)
  where
    go : Dec (x ≡ 0) → (padded xs ≡ true → Split xs) → Split (x ∷ xs)
    go (yes e) ih =
        record {
          text = [];
          zeros = suc (length xs);
          are = rw e (ap {B = Bytes} (λ l. 0 ∷ l) (all_zero xs (rw (eq-eqb x 0 e) at h)));
          no_zero = λ y m. absurd
              (in_empty m);
        }
    go (no e) ih =
        let r = ih (rw (ne_eqb x 0 e) at h) in
        record { text = x ∷ r.text; zeros = r.zeros; are = ap {B = Bytes} (λ l. x ∷ l) r.are; no_zero = λ y m k. both y k r (in_cases m) }
      where
        both : (y : ℕ) → y ≡ 0 → (r : Split xs) → (y ≡ x) ⊎ (y ∈ r.text) → ⊥
        both y k r (inl q) = e (sym q ∙ k)
        both y k r (inr m) = r.no_zero y m k

split_padded : (t : Bytes) (n : ℕ) → ((x : ℕ) → x ∈ t → x ≡ 0 → ⊥) → padded (t ++ replicate n 0) ≡ true
unfolding padded
split_padded [] zero f = refl
split_padded [] (suc n) f = rw (eq-eqb 0 0 refl) (zero_all n)
split_padded (x ∷ t) n f = rw (ne_eqb x 0 (f x here)) (split_padded t n (λ y m. f y (there m)))

first_zero : (n : ℕ) → ◌≡◌ {A = ℕ} (get_or (replicate n 0) 0 0) 0
first_zero zero = refl
first_zero (suc n) = refl

name_meant : (n : Bytes) → (good_name n ≡ true) ↔ Named n
unfolding good_name
name_meant n = (
  λ h. named (not-true (eqb (get_or n 0 0) 0) (and_left (not (eqb (get_or n 0 0) 0)) _ h))
      (padded_split n (and_right (not (eqb (get_or n 0 0) 0)) _ h)),
  back,
)
  where
    named : eqb (get_or n 0 0) 0 ≡ false → Split n → Named n
    named z r = record { text = r.text; zeros = r.zeros; are = r.are; not_empty = fails _ (λ e. some_text e); no_zero = r.no_zero }
      where
        some_text : is_empty r.text ≡ true → ⊥
        some_text e =
            let none : r.text ≡ [] = is_empty_true r.text e in
            let all : n ≡ replicate r.zeros 0 = r.are ∙ ap (λ (t : Bytes). t ++ replicate r.zeros 0) none in
            eqb-false (get_or n 0 0) 0 z (ap (λ (l : Bytes). get_or l 0 0) all ∙ first_zero r.zeros)

    front : (t : Bytes) (k : ℕ) → is_empty t ≡ false → ((x : ℕ) → x ∈ t → x ≡ 0 → ⊥) → eqb (get_or (t ++ replicate k 0) 0 0) 0 ≡ false
    front [] k e f = absurd (true≢false (unfold is_empty in e))
    front (x ∷ t) k e f = ne_eqb x 0 (f x here)

    back : Named n → not (eqb (get_or n 0 0) 0) && padded n ≡ true
    back r = rw (r.are, front r.text r.zeros r.not_empty r.no_zero, split_padded r.text r.zeros r.no_zero)

-- ---- names that differ

module _ (f : ℕ → Bytes) where
  abbrev Differ : List ℕ → Type 0
  Differ is = (i j : ℕ) → i ∈ is → j ∈ is → f i ≡ f j → i ≡ j

  not_same : (xs ys : Bytes) → not (same xs ys) ≡ true → xs ≡ ys → ⊥
  not_same xs ys h e = not_both (rw e (same_refl ys)) (not-true (same xs ys) h)

  pairwise_differ : (is : List ℕ) → pairwise (λ m n. not (same m n)) (map f is) ≡ true → Differ is
  unfolding pairwise
  pairwise_differ [] h i j m n = absurd (in_empty m)
  pairwise_differ (x ∷ is) h i j m n = go (in_cases m) (in_cases n) (pairwise_differ is (and_right (all_of (λ k. not (same (f x) k)) (map f is)) _ h) i j)
    where
      later : (k : ℕ) → k ∈ is → f x ≡ f k → ⊥
      later k l = not_same (f x) (f k) (all_in (λ y. not (same (f x) y)) (map f is) (and_left (all_of (λ y. not (same (f x) y)) (map f is)) _ h) (in_map f l))

      go : (i ≡ x) ⊎ (i ∈ is) → (j ≡ x) ⊎ (j ∈ is) → (i ∈ is → j ∈ is → f i ≡ f j → i ≡ j) → f i ≡ f j → i ≡ j
      go (inl p) (inl q) ih e = p ∙ sym q
      go (inl p) (inr l) ih e = absurd (later j l (ap f (sym p) ∙ e))
      go (inr l) (inl q) ih e = absurd (later i l (ap f (sym q) ∙ sym e))
      go (inr l) (inr k) ih e = ih l k e

  differ_pairwise : (is : List ℕ) → Once is → Differ is → pairwise (λ m n. not (same m n)) (map f is) ≡ true
  unfolding pairwise
  differ_pairwise [] o d = refl
  differ_pairwise (x ∷ is) (also n o) d =
      and_both _ _
      (in_all (λ y. not (same (f x) y)) (map f is) (λ y m. let r = map_in f is m in rw
      (fails (same (f x) y) (λ s. n (rw (d x r.0 here (there r.1) (same_true (f x) y s ∙ sym r.2)) r.1)))))
      (differ_pairwise is o (λ i j l k. d i j (there l) (there k)))

-- ---- the claims

pub names_meant : (f : Bytes) (is : List ℕ) → Once is → (good_names (map (name_at f) is) ≡ true) ↔ WellNamed f is
unfolding good_names
names_meant f is o = (
  λ g. record {
    named = λ i m. (name_meant (name_at f i)).0 (all_in good_name (map (name_at f) is) (and_left (all_of good_name (map (name_at f) is)) _ g)
        (in_map (name_at f) m));
    differ = pairwise_differ (name_at f) is (and_right (all_of good_name (map (name_at f) is)) _ g);
  },
  λ w.
      and_both _ _
      (in_all good_name (map (name_at f) is) (λ x m. let r = map_in (name_at f) is m in rw (← r.2) ((name_meant (name_at f r.0)).1 (w.named r.0 r.1))))
      (differ_pairwise (name_at f) is o w.differ),
)

pub claimed : Claims
claimed = record { name = unfold NameMeant in name_meant; names = unfold NamesMeant in names_meant }
