-- Laws of reading up to the end: what was written is read, what was read had been written so, and it goes one by one. Assumes nothing.
use mathlib.Core.Path.{◌≡◌, refl, ap, ◌∙◌}
use mathlib.Core.List.{List, [], ◌∷◌, ◌++◌, map, flatten}
use mathlib.Core.Option
use mathlib.Core.Option.{Option, none, some, some-injective, none-ne-some}
use mathlib.Core.Bool.{Bool, true, false}
use Prim.Native.Nat.{ℕ, zero, suc, ◌≤◌, ◌<◌}
use native.Mathlib.Omega.{arith}
use lib.ListN.{length, length-append}
use Rattle.base.specs.Lists.{pick, is_empty}
use Rattle.base.specs.Read.{Part, Read, and_others, up_to, to_end}
use Rattle.base.proofs.Tests.{not_both}
use Rattle.base.proofs.Lists.{is_empty_true, Every, none_of, and}
use Rattle.base.proofs.Le.{AllBytes, bytes_right}
use Rattle.base.proofs.Read.{ReadsBack, Consumed, Back, One}

-- ---- forward

not_empty : (s : List ℕ) → is_empty (s ++ []) ≡ false → 0 < length s
unfolding is_empty
not_empty [] e = absurd (not_both refl e)
not_empty (x ∷ s) e = omega arith

module _ {A : Type 0} (m : Read A) (w : A → List ℕ) (full : (a : A) (t : List ℕ) → is_empty (w a ++ t) ≡ false) where
  pub up_to_reads : (n : ℕ) (xs : List A) → length xs ≤ n → Every (ReadsBack m w) xs → up_to n m (flatten (map w xs)) ≡ some xs
  unfolding up_to flatten is_empty and_others
  up_to_reads zero [] l none_of = refl
  up_to_reads (suc n) [] l none_of = refl
  up_to_reads zero (x ∷ xs) l h = absurd (omega arith)
  up_to_reads (suc n) (x ∷ xs) l (and h hs) = rw (full x (flatten (map w xs)), h (flatten (map w xs)), up_to_reads n xs (omega arith) hs)

  -- each takes a byte at least
  as_many_bytes : (xs : List A) → length xs ≤ length (flatten (map w xs))
  unfolding flatten
  as_many_bytes [] = omega arith
  as_many_bytes (x ∷ xs) = omega (arith, length-append (w x) (flatten (map w xs)), not_empty (w x) (full x []), as_many_bytes xs)

  pub to_end_reads : (xs : List A) → Every (ReadsBack m w) xs → to_end m (flatten (map w xs)) ≡ some xs
  unfolding to_end
  to_end_reads xs h = up_to_reads (length (flatten (map w xs))) xs (as_many_bytes xs) h

-- ---- back

-- what was read up to the end
pub record ReadAll {A : Type 0} (w : A → List ℕ) (P : A → Type 0) (s : List ℕ) (xs : List A) : Type 0 where
  pub are : s ≡ flatten (map w xs)
  pub right : Every P xs

module _ {A : Type 0} (m : Read A) (w : A → List ℕ) (P : A → Type 0) (back : Back m (One w P)) where
  -- one was read, and then others
  one_back : (n : ℕ) (s : List ℕ) (xs : List A) → AllBytes s → (o : Option (Part A)) → m s ≡ o → and_others o (up_to n m) ≡ some xs
      → ((t : List ℕ) (ys : List A) → AllBytes t → up_to n m t ≡ some ys → ReadAll w P t ys) → ReadAll w P s xs
  unfolding and_others flatten
  one_back n s xs b none e h ih = absurd (none-ne-some xs h)
  one_back n s xs b (some p) e h ih = go (up_to n m p.rest) refl h
    where
      c : Consumed (One w P) s p
      c = back s p b e

      go : (o : Option (List A)) → up_to n m p.rest ≡ o → Option.map (λ ys. p.value ∷ ys) o ≡ some xs → ReadAll w P s xs
      go none f k = absurd (none-ne-some xs k)
      go (some ys) f k =
          let y = ih p.rest ys (bytes_right c.front p.rest (rw c.splits at b)) f in
          rw (← some-injective _ _ k)
          (record { are = c.splits ∙ rw (c.says.are, y.are); right = and c.says.right y.right })

  nothing_left : (s : List ℕ) (xs : List A) → is_empty s ≡ true → some [] ≡ some xs → ReadAll w P s xs
  unfolding flatten
  nothing_left s xs e k = rw (← some-injective _ _ k, is_empty_true s e) (record { are = refl; right = none_of })

  up_to_back : (n : ℕ) (s : List ℕ) (xs : List A) → AllBytes s → up_to n m s ≡ some xs → ReadAll w P s xs
  unfolding up_to
  up_to_back zero s xs b h = go (is_empty s) refl h
    where
      go : (t : Bool) → is_empty s ≡ t → pick t (some []) none ≡ some xs → ReadAll w P s xs
      go true e k = nothing_left s xs e k
      go false e k = absurd (none-ne-some xs k)
  up_to_back (suc n) s xs b h = go (is_empty s) refl h (up_to_back n)
    where
      go : (t : Bool) → is_empty s ≡ t → pick t (some []) (and_others (m s) (up_to n m)) ≡ some xs
          → ((t : List ℕ) (ys : List A) → AllBytes t → up_to n m t ≡ some ys → ReadAll w P t ys) → ReadAll w P s xs
      go true e k ih = nothing_left s xs e k
      go false e k ih = one_back n s xs b (m s) refl k ih

  pub to_end_back : (s : List ℕ) (xs : List A) → AllBytes s → to_end m s ≡ some xs → ReadAll w P s xs
  unfolding to_end
  to_end_back s xs b h = up_to_back (length s) s xs b h

-- ---- one by one

module _ {A : Type 0} (m : Read A) where
  pub to_end_done : to_end m [] ≡ some []
  unfolding to_end up_to is_empty
  to_end_done = refl

  pub to_end_stops : (s : List ℕ) → 0 < length s → m s ≡ none → to_end m s ≡ none
  unfolding to_end up_to is_empty and_others
  to_end_stops [] l h = absurd (omega arith)
  to_end_stops (x ∷ s) l h = rw h

module _ {A : Type 0} (m : Read A) (w : A → List ℕ) (P : A → Type 0) (full : (a : A) (t : List ℕ) → is_empty (w a ++ t) ≡ false) (back : Back m (One w P)) where
  -- what is left is shorter, and bytes too
  pub falls : (s : List ℕ) (p : Part A) → AllBytes s → m s ≡ some p → (length p.rest < length s) × AllBytes p.rest
  falls s p b h =
      let c : Consumed (One w P) s p = back s p b h in
      let all : s ≡ w p.value ++ p.rest = c.splits ∙ rw c.says.are in (
        omega (arith, ap length all, length-append (w p.value) p.rest, not_empty (w p.value) (full p.value [])),
        bytes_right c.front p.rest
            (rw c.splits at b),
      )

  -- more turns than bytes change nothing
  up_to_enough : (n k : ℕ) (s : List ℕ) → AllBytes s → length s ≤ n → length s ≤ k → up_to n m s ≡ up_to k m s
  unfolding up_to is_empty and_others
  up_to_enough zero zero [] b l i = refl
  up_to_enough zero (suc k) [] b l i = refl
  up_to_enough (suc n) zero [] b l i = refl
  up_to_enough (suc n) (suc k) [] b l i = refl
  up_to_enough zero k (x ∷ s) b l i = absurd (omega arith)
  up_to_enough (suc n) zero (x ∷ s) b l i = absurd (omega arith)
  up_to_enough (suc n) (suc k) (x ∷ s) b l i = go (m (x ∷ s)) refl (up_to_enough n k)
    where
      go : (o : Option (Part A)) → m (x ∷ s) ≡ o → ((t : List ℕ) → AllBytes t → length t ≤ n → length t ≤ k → up_to n m t ≡ up_to k m t)
          → and_others o (up_to n m) ≡ and_others o (up_to k m)
      go none e ih = refl
      go (some p) e ih =
          let f = falls (x ∷ s) p b e in
          rw (ih p.rest f.1 (omega (arith, f.0)) (omega (arith, f.0)))

  -- the first, and then the others
  pub to_end_goes_on : (s : List ℕ) (p : Part A) → AllBytes s → m s ≡ some p → to_end m s ≡ Option.map (λ xs. p.value ∷ xs) (to_end m p.rest)
  unfolding to_end up_to is_empty and_others
  to_end_goes_on [] p b h = absurd (omega (arith, (falls [] p b h).0))
  to_end_goes_on (x ∷ s) p b h =
      let f = falls (x ∷ s) p b h in
      rw (h, up_to_enough (length s) (length p.rest) p.rest f.1 (omega (arith, f.0)) (omega arith))
