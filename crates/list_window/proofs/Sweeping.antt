-- What the rows of a window say of a block at each locator in it: the last of its edges up to there, or without one what held at the last locator before the
-- window. Assumes nothing.
use mathlib.Core.Path.{◌≡◌, refl, sym, ap, ◌∙◌}
use mathlib.Core.Logic.{◌⊎◌, inl, inr}
use mathlib.Core.Bool.{Bool, true, false, not, ◌&&◌}
use mathlib.Core.List.Permᴰ
use mathlib.Core.List.{List, [], ◌∷◌, ◌++◌}
use mathlib.Core.Option.{Option, none, some}
use Prim.Native.Nat.{ℕ, ◌+◌, ◌<◌}
use native.Mathlib.Omega.{arith}
use lib.ListN.{get_or}
use Rattle.base.specs.Lists.{pick, keep, is_none}
use Rattle.base.specs.Le.{Bytes}
use Rattle.base.proofs.Tests.{not_both, fails}
use Rattle.base.proofs.Lists.{Every, every, every_in, Pairs, no_pairs, with_later, pairs_keep, keep_same}
use Rattle.record_spec.specs.Reference.{TransactionLocator, locator_before}
use Rattle.record_spec.proofs.References.{locator_trans}
use Rattle.final_spec.specs.NextFinal.{is_after}
use Rattle.list_order.specs.Row.{is_after_best}
use Rattle.list_row_sort.specs.Rows.{Row, rows_of, key_of, row_before, Sorted, Permuted}
use Rattle.list_row_sort.proofs.Order.{row_asymmetric}
use Rattle.list_row_sort.proofs.Permutations.{permuted_same, permuted_in, in_permuted, permuted_length, permuted_keep}
use Rattle.list_range_rows.specs.Ranges.{any_covers, Apart, Proper}
use Rattle.list_edge_rows.specs.Edges.{edges_of, edges_from, begins, of_place, reached, last_begins, open_at}
use Rattle.list_edge_rows.proofs.Order.{in_pairs, LastOf, last_of}
use Rattle.list_edge_rows.proofs.Said.{edges_say}
use Rattle.list_edge_rows.proofs.Together.{from_place, keep_keep, keep_none}
use Rattle.list_kind_ranges.specs.Kinds.{any_span}
use Rattle.list_reach.proofs.Reach.{within_after, within_last}
use Rattle.list_lanes.specs.Lanes.{Lanes}
use Rattle.list_cuts.specs.Cuts.{in_window}
use Rattle.list_window.specs.Window.{said_at, Gathered}
use Rattle.list_cuts.proofs.Narrowing.{narrowed}
use Rattle.list_window.proofs.Few.{Strict, edges_strict}

last_append : (t : Bool) (xs ys : List Row) → last_begins t (xs ++ ys) ≡ last_begins (last_begins t xs) ys
unfolding last_begins
last_append t [] ys = refl
last_append t (x ∷ xs) ys = last_append (begins x) xs ys

module _ (s : Bytes) where
  strict_sorted : (xs : List Row) → Strict s xs → Pairs (λ r q. row_before s q r ≡ false) xs
  strict_sorted [] no_pairs = no_pairs
  strict_sorted (x ∷ xs) (with_later h hs) = with_later (every (λ q b. row_asymmetric s x q b) xs h) (strict_sorted xs hs)

  -- the last of rows that ascend is that of the same rows each before the next
  last_same : (t : Bool) (xs ys : List Row) → Permuted xs ys → Pairs (λ r q. row_before s q r ≡ false) xs → Strict s ys → last_begins t xs ≡ last_begins t ys
  last_same t [] [] d h k = refl
  last_same t [] (y ∷ ys) d h k = absurd (omega (arith, permuted_length d))
  last_same t (x ∷ xs) [] d h k = absurd (omega (arith, permuted_length d))
  last_same t (x ∷ xs) (y ∷ ys) d h k = a.tells ∙ ap begins (go (in_pairs (y ∷ ys) k (permuted_in d a.stands) b.stands)) ∙ sym b.tells
    where
      a : LastOf s (x ∷ xs) t
      a = last_of s x xs t h

      b : LastOf s (y ∷ ys) t
      b = last_of s y ys t (strict_sorted (y ∷ ys) k)

      go : (a.edge ≡ b.edge) ⊎ ((row_before s a.edge b.edge ≡ true) ⊎ (row_before s b.edge a.edge ≡ true)) → a.edge ≡ b.edge
      go (inl e) = e
      go (inr (inl e)) = absurd (not_both e (a.last b.edge (in_permuted d b.stands)))
      go (inr (inr e)) = absurd (not_both e (b.last a.edge (permuted_in d a.stands)))

  -- rows up to a locator are those up to an earlier one and those after that
  up_to : (m l : TransactionLocator) → locator_before m l ≡ true → (xs : List Row) → Strict s xs → keep (reached s l) xs ≡ keep (reached s m) xs ++ keep
      (in_window s (some m) (some l)) xs
  unfolding keep reached in_window is_after is_after_best is_none row_before
  up_to m l h [] no_pairs = refl
  up_to m l h (x ∷ xs) (with_later k ks) = go (locator_before m (key_of s x)) refl (up_to m l h xs ks)
    where
      after_m : locator_before m (key_of s x) ≡ true → Every (λ q. locator_before m (key_of s q) ≡ true) xs
      after_m e = every (λ q b. locator_trans m (key_of s x) (key_of s q) e b) xs k

      go : (c : Bool) → locator_before m (key_of s x) ≡ c → keep (reached s l) xs ≡ keep (reached s m) xs ++ keep (in_window s (some m) (some l)) xs
          → pick (not (locator_before l (key_of s x))) (x ∷ keep (reached s l) xs) (keep (reached s l) xs)
          ≡ pick (not c) (x ∷ keep (reached s m) xs) (keep (reached s m) xs)
          ++ pick (c && not (locator_before l (key_of s x))) (x ∷ keep (in_window s (some m) (some l)) xs) (keep (in_window s (some m) (some l)) xs)
      go false e r = rw (fails (locator_before l (key_of s x)) (λ f. not_both (locator_trans m l (key_of s x) h f) e)) (ap (λ (ys : List Row). x ∷ ys) r)
      go true e r =
          rw (keep_none (reached s m) xs (every (λ q b. ap not b) xs (after_m e)))
          (ap (λ (ys : List Row). pick (not (locator_before l (key_of s x))) (x ∷ ys) ys)
          (keep_same (reached s l) (in_window s (some m) (some l)) xs (λ q j. rw (every_in xs q (after_m e) j))))

  -- ---- a block's own edges

  module _ (k : ℕ) (rs : List Row) (proper : Every (Proper s) rs) (apart : Pairs (Apart s) rs) (l : TransactionLocator) where
    own_say : (m : TransactionLocator) → open_at s (edges_of k rs) m ≡ any_covers s rs m
    unfolding Sorted
    own_say m = edges_say s k rs (edges_of k rs) proper apart (Permᴰ.refl (edges_of k rs)) (strict_sorted (edges_of k rs) (edges_strict s k rs proper apart)) m

    from_start : last_begins false (keep (in_window s none (some l)) (edges_of k rs)) ≡ any_covers s rs l
    unfolding open_at in_window is_after is_after_best is_none reached
    from_start = own_say l

    from_last : (m : TransactionLocator) → locator_before m l ≡ true → last_begins (any_covers s rs m) (keep (in_window s (some m) (some l)) (edges_of k rs)) ≡
        any_covers s rs l
    unfolding open_at
    from_last m h =
        ap (λ (t : Bool). last_begins t (keep (in_window s (some m) (some l)) (edges_of k rs))) (sym (own_say m))
        ∙ sym (last_append false (keep (reached s m) (edges_of k rs)) (keep (in_window s (some m) (some l)) (edges_of k rs)))
        ∙ ap (last_begins false) (sym (up_to m l h (edges_of k rs) (edges_strict s k rs proper apart)))
        ∙ own_say l

-- ---- the rows of a window

pairs_strict : (s : Bytes) (p : Row → Bool) (xs : List Row) → Strict s xs → Strict s (keep p xs)
pairs_strict s p xs h = pairs_keep p xs h

module _ (lanes : Lanes) (s : Bytes) (bound : Option TransactionLocator) (t : List ℕ) (n k : ℕ) (h : k < 3072) (l : TransactionLocator)
    (short : is_after_best bound l ≡ false) where
  module _ (last : Option TransactionLocator) (g : Gathered lanes s last bound t n) where
    abbrev own : List Row
    own = get_or g.all.rss k []

    of_place_lem : keep (reached s l) (keep (of_place k) (keep (in_window s last bound) (edges_from 0 g.all.rss))) ≡ keep (in_window s last (some l))
        (edges_of k own)
    of_place_lem =
        let e : 0 + k ≡ k = omega arith in
        ap (keep (reached s l)) (keep_keep (of_place k) (in_window s last bound) (edges_from 0 g.all.rss) ∙ ap (keep (in_window s last bound))
        (rw e at (from_place 0 k g.all.rss (omega (arith, g.all.many)))))
        ∙ narrowed s last l bound short (edges_of k own)

    same_last : (was : Bool) → last_begins was (keep (reached s l) (keep (of_place k) (rows_of t n))) ≡ last_begins was
        (keep (in_window s last (some l)) (edges_of k own))
    unfolding Sorted
    same_last was =
        last_same s was _ _
        (Permᴰ.trans (permuted_keep (reached s l) (permuted_keep (of_place k) g.all.held.rows)) (permuted_same of_place_lem))
        (pairs_keep (reached s l) _ (pairs_keep (of_place k) (rows_of t n) g.sorted))
        (pairs_strict s (in_window s last (some l)) (edges_of k own) (edges_strict s k own (g.all.right k h).proper (g.all.right k h).apart))

  -- what a lane says of a locator in the window
  pub window_says : (last : Option TransactionLocator) → Gathered lanes s last bound t n → is_after last l ≡ true
      → last_begins (said_at (lanes k) last) (keep (reached s l) (keep (of_place k) (rows_of t n))) ≡ any_span (lanes k) l
  unfolding said_at is_after
  window_says none g a =
      let r = g.all.right k h in
      same_last none g false ∙ from_start s k (own none g) r.proper r.apart l ∙ r.covering l (within_after bound l short none a)
  window_says (some m) g a =
      let r = g.all.right k h in
      same_last (some m) g (any_span (lanes k) m)
      ∙ ap (λ (c : Bool). last_begins c (keep (in_window s (some m) (some l)) (edges_of k (own (some m) g))))
      (sym (r.covering m (within_last bound l short m a)))
      ∙ from_last s k (own (some m) g) r.proper r.apart l m a
      ∙ r.covering l (within_after bound l short (some m) a)
