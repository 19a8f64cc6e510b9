-- The edges of several blocks in one table that ascends: what those of one place say, and how a pass over the table knows it. Assumes nothing.
use mathlib.Core.Path.{◌≡◌, refl, sym, ap, ap₂, subst, ◌∙◌}
use mathlib.Core.Bool.{Bool, true, false}
use mathlib.Core.List.{List, [], ◌∷◌, ◌++◌, append_assoc, append-nil}
use Prim.Native.Nat.{ℕ, zero, suc, ◌+◌, ◌<◌}
use native.Mathlib.Omega.{arith}
use lib.ListN.{length, get_or, take, drop, take-append-drop}
use Rattle.base.specs.Lists.{pick, keep}
use Rattle.base.specs.Le.{Bytes}
use Rattle.base.proofs.Lists.{Every, none_of, and, Pairs, pairs_keep, keep_append}
use Rattle.record_spec.specs.Reference.{TransactionLocator}
use Rattle.list_row_sort.specs.Rows.{Row, Sorted, Permuted}
use Rattle.list_row_sort.proofs.Permutations.{permuted_keep}
use Rattle.list_range_rows.specs.Ranges.{any_covers, Apart, Proper}
use Rattle.list_edge_rows.specs.Edges.{edges_of, edges_from, begins, of_place, reached, last_begins, open_at}
use Rattle.list_edge_rows.proofs.Edges.{edges_own, edges_others}
use Rattle.list_edge_rows.proofs.Said.{edges_say}

-- ---- those of one place

-- one block more
pub from_more : (i : ℕ) (rss : List (List Row)) (rs : List Row) → edges_from i (rss ++ rs ∷ []) ≡ edges_from i rss ++ edges_of (i + length rss) rs
unfolding edges_from
from_more i [] rs = let e : i + 0 ≡ i = omega arith in rw e (append-nil (edges_of i rs))
from_more i (xs ∷ xss) rs =
    let e : i + 1 + length xss ≡ i + suc (length xss) = omega arith in
    ap (λ (es : List Row). edges_of i xs ++ es) (rw e at (from_more (i + 1) xss rs)) ∙ sym
    (append_assoc (edges_of i xs) (edges_from (i + 1) xss) (edges_of (i + suc (length xss)) rs))

-- places below the first have none
from_below : (i j : ℕ) (rss : List (List Row)) → j < i → keep (of_place j) (edges_from i rss) ≡ []
unfolding edges_from keep
from_below i j [] h = refl
from_below i j (rs ∷ rss) h =
    keep_append (of_place j) (edges_of i rs) (edges_from (i + 1) rss)
    ∙ ap₂ ◌++◌ (edges_others i j (λ e. omega arith) rs) (from_below (i + 1) j rss (omega arith))

pub from_place : (i k : ℕ) (rss : List (List Row)) → k < length rss → keep (of_place (i + k)) (edges_from i rss) ≡ edges_of (i + k) (get_or rss k [])
unfolding edges_from
from_place i k [] h = absurd (omega arith)
from_place i zero (rs ∷ rss) h =
    let e : i + 0 ≡ i = omega arith in
    rw e
    (keep_append (of_place i) (edges_of i rs) (edges_from (i + 1) rss)
    ∙ ap₂ ◌++◌ (edges_own i rs) (from_below (i + 1) i rss (omega arith))
    ∙ append-nil (edges_of i rs))
from_place i (suc k) (rs ∷ rss) h =
    let e : i + 1 + k ≡ i + suc k = omega arith in
    keep_append (of_place (i + suc k)) (edges_of i rs) (edges_from (i + 1) rss)
    ∙ ap₂ ◌++◌ (edges_others i (i + suc k) (λ f. omega arith) rs) (rw e at (from_place (i + 1) k rss (omega arith)))

-- so those of a place in the whole table say what the rows of that block cover
pub place_says : (s : Bytes) (rss : List (List Row)) (es : List Row) → Permuted es (edges_from 0 rss) → Sorted s es → (k : ℕ) → k < length rss → Every
    (Proper s) (get_or rss k []) → Pairs (Apart s) (get_or rss k [])
    → (l : TransactionLocator) → open_at s (keep (of_place k) es) l ≡ any_covers s (get_or rss k []) l
unfolding Sorted
place_says s rss es d o k h p a l =
    let e : 0 + k ≡ k = omega arith in
    let own = rw e at (from_place 0 k rss h) in
    edges_say s k (get_or rss k []) (keep (of_place k) es) p a
    (subst (λ (ys : List Row). Permuted (keep (of_place k) es) ys) own (permuted_keep (of_place k) d))
    (pairs_keep (of_place k) es o) l

-- ---- a pass over the table

pub keep_keep : (p q : Row → Bool) (xs : List Row) → keep p (keep q xs) ≡ keep q (keep p xs)
unfolding keep
keep_keep p q [] = refl
keep_keep p q (x ∷ xs) = go (p x) (q x) refl refl (keep_keep p q xs)
  where
    go : (t u : Bool) → p x ≡ t → q x ≡ u → keep p (keep q xs) ≡ keep q (keep p xs) → keep p (pick u (x ∷ keep q xs) (keep q xs)) ≡ keep q
        (pick t (x ∷ keep p xs) (keep p xs))
    go true true e f k = rw (e, f) (ap (λ (ys : List Row). x ∷ ys) k)
    go true false e f k = rw f k
    go false true e f k = rw e k
    go false false e f k = k

pub keep_all : (p : Row → Bool) (xs : List Row) → Every (λ x. p x ≡ true) xs → keep p xs ≡ xs
unfolding keep
keep_all p [] none_of = refl
keep_all p (x ∷ xs) (and h hs) = rw h (ap (λ (ys : List Row). x ∷ ys) (keep_all p xs hs))

pub keep_none : (p : Row → Bool) (xs : List Row) → Every (λ x. p x ≡ false) xs → keep p xs ≡ []
unfolding keep
keep_none p [] none_of = refl
keep_none p (x ∷ xs) (and h hs) = rw h (keep_none p xs hs)

module _ (s : Bytes) (es : List Row) (p : Row → Bool) where
  -- where the first j edges of the table are at or before the locator, and the others after it, the last of the first j tells
  pub swept : (j : ℕ) (l : TransactionLocator) → Every (λ e. reached s l e ≡ true) (take j es) → Every (λ e. reached s l e ≡ false) (drop j es) → open_at s
      (keep p es) l ≡ last_begins false (keep p (take j es))
  unfolding open_at
  swept j l a b = ap (last_begins false) (keep_keep (reached s l) p es ∙ ap (keep p) front)
    where
      front : keep (reached s l) es ≡ take j es
      front =
          ap (keep (reached s l)) (sym (take-append-drop j es))
          ∙ keep_append (reached s l) (take j es) (drop j es)
          ∙ ap₂ ◌++◌ (keep_all (reached s l) (take j es) a) (keep_none (reached s l) (drop j es) b)
          ∙ append-nil (take j es)

-- one edge more, of the place or of another
last_more : (t : Bool) (xs : List Row) (e : Row) → last_begins t (xs ++ e ∷ []) ≡ begins e
unfolding last_begins
last_more t [] e = refl
last_more t (x ∷ xs) e = last_more (begins x) xs e

pub swept_more : (was : Bool) (p : Row → Bool) (xs : List Row) (e : Row) → last_begins was (keep p (xs ++ e ∷ [])) ≡ pick (p e) (begins e)
    (last_begins was (keep p xs))
unfolding keep
swept_more was p xs e = ap (last_begins was) (keep_append p xs (e ∷ [])) ∙ go (p e)
  where
    go : (t : Bool) → last_begins was (keep p xs ++ pick t (e ∷ []) []) ≡ pick t (begins e) (last_begins was (keep p xs))
    go true = last_more was (keep p xs) e
    go false = ap (last_begins was) (append-nil (keep p xs))
