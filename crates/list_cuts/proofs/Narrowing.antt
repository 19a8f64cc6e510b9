-- A window that ends earlier, once the table was sorted and cut, and how many rows are left. Assumes nothing.
use mathlib.Core.Path.{◌≡◌, refl, ap, subst, ◌∙◌}
use mathlib.Core.Bool.{Bool, true, false, not, ◌&&◌}
use mathlib.Core.List.Permᴰ
use mathlib.Core.List.{List, [], ◌∷◌, ◌++◌}
use mathlib.Core.Option.{Option, none, some, some-injective}
use Prim.Native.Nat.{ℕ, ◌+◌, ◌-◌, ◌≤◌, ◌<◌}
use native.Mathlib.Omega.{arith}
use native.Mathlib.Decide.{ℕ_discrete}
use lib.ListN.{length, length-append}
use borrow.Author.Tests.{not-true}
use Rattle.base.specs.Lists.{pick, keep, is_none, ◌∈◌}
use Rattle.base.specs.Le.{Bytes}
use Rattle.base.proofs.Tests.{not_both, and_right}
use Rattle.base.proofs.Members.{keep_in}
use Rattle.base.proofs.Lists.{Every, keep_append, keep_same}
use Rattle.record_spec.specs.Reference.{TransactionLocator, locator_before, same_locator}
use Rattle.record_spec.proofs.References.{locator_total, same_locator_lem, not_before_trans}
use Rattle.final_spec.specs.NextFinal.{is_after}
use Rattle.list_row_sort.specs.Rows.{Row, row_at, rows_from, rows_of, key_of, row_before, Permuted, Inside, SortedAs}
use Rattle.list_row_sort.proofs.Order.{row_irrefl}
use Rattle.list_row_sort.proofs.Permutations.{permuted_same, permuted_in, permuted_length, permuted_keep}
use Rattle.list_row_sort.proofs.Tables.{length_rows, rows_split, rows_back, rows_every, row_dropped, row_in, sorted_at, inside_permuted}
use Rattle.list_edge_rows.specs.Edges.{reached}
use Rattle.list_edge_rows.proofs.Together.{keep_all}
use Rattle.list_order.specs.Row.{is_after_best}
use Rattle.list_reach.proofs.Reach.{short_before}
use Rattle.list_cuts.specs.Cuts.{in_window, CutAt, Held}
use Rattle.list_cuts.specs.Room.{rows_at, FewAt, Shorter}

-- two tests, one after the other
keep_both : (p q : Row → Bool) (xs : List Row) → keep p (keep q xs) ≡ keep (λ x. q x && p x) xs
unfolding keep
keep_both p q [] = refl
keep_both p q (x ∷ xs) = go (q x) (p x) refl (keep_both p q xs)
  where
    go : (t u : Bool) → p x ≡ u → keep p (keep q xs) ≡ keep (λ y. q y && p y) xs
        → keep p (pick t (x ∷ keep q xs) (keep q xs)) ≡ pick (t && u) (x ∷ keep (λ y. q y && p y) xs) (keep (λ y. q y && p y) xs)
    go true true e k = rw e (ap (λ (ys : List Row). x ∷ ys) k)
    go true false e k = rw e k
    go false u e k = k

-- ---- the smaller window

module _ (s : Bytes) (last : Option TransactionLocator) (key : TransactionLocator) where
  narrower : (bound : Option TransactionLocator) → is_after_best bound key ≡ false → (e : Row) → in_window s last bound e && reached s key e ≡ in_window s last
      (some key) e
  unfolding in_window reached is_after_best is_after is_none
  narrower none short e = go (is_after last (key_of s e))
    where
      go : (a : Bool) → (a && true) && not (locator_before key (key_of s e)) ≡ a && not (locator_before key (key_of s e))
      go true = refl
      go false = refl
  narrower (some b) short e = go (is_after last (key_of s e)) (locator_before b (key_of s e)) (locator_before key (key_of s e))
      (λ h. not_before_trans (key_of s e) key b h short)
    where
      go : (a c l : Bool) → (l ≡ false → c ≡ false) → (a && not c) && not l ≡ a && not l
      go false c l h = refl
      go true false l h = refl
      go true true true h = refl
      go true true false h = absurd (not_both refl (h refl))

  pub narrowed : (bound : Option TransactionLocator) → is_after_best bound key ≡ false → (es : List Row) → keep (reached s key)
      (keep (in_window s last bound) es) ≡ keep (in_window s last (some key)) es
  narrowed bound short es = keep_both (reached s key) (in_window s last bound) es ∙ keep_same _ _ es (λ e m. narrower bound short e)

not_after : (s : Bytes) (last bound : Option TransactionLocator) (e : Row) → in_window s last bound e ≡ true → is_after_best bound (key_of s e) ≡ false
unfolding in_window
not_after s last bound e h = not-true _ (and_right (is_after last (key_of s e)) (not (is_after_best bound (key_of s e))) h)

-- ---- a table that was sorted and cut

module _ (s : Bytes) (n at m : ℕ) (u v : List ℕ) (sorted : SortedAs s n u v) (cut : CutAt s v n at m) where
  abbrev key : TransactionLocator
  key = key_of s (row_at v at)

  module _ (last bound : Option TransactionLocator) (es : List Row) (held : Held s last bound u n es) where
    whole : Permuted (rows_of v n) (keep (in_window s last bound) es)
    whole = Permᴰ.trans sorted.permuted held.rows

    key_short : is_after_best bound key ≡ false
    key_short = not_after s last bound (row_at v at) (keep_in (in_window s last bound) es
        (permuted_in whole (row_in v n at (omega (arith, cut.more, cut.few))))).1

    pub cut_held : Held s last (some key) v m es
    unfolding Inside
    cut_held =
        record {
          room = omega (arith, held.room, sorted.long, cut.few);
          inside = λ i h. inside_permuted s u v n sorted.permuted held.inside i (omega (arith, cut.few));
          rows =
              Permᴰ.trans (permuted_same cut.rows)
              (Permᴰ.trans (permuted_keep (reached s key) whole) (permuted_same (narrowed s last key bound key_short es)));
          stands = λ l e. (row_at v at, (row_in v m at cut.more, some-injective _ _ e));
        }

    -- the window is not longer than before
    pub cut_shorter : Shorter bound (some key)
    unfolding Shorter is_after_best is_none is_after
    cut_shorter l h = short_before bound key l h key_short

  -- a row from the middle on that was not cut is at its locator
  at_key : (j : ℕ) → at ≤ j → j < m → same_locator (key_of s (row_at v j)) key ≡ true
  unfolding reached row_before
  at_key j h k = same_locator_lem (locator_total (key_of s (row_at v j)) key (not_lower (ℕ_discrete at j)) not_higher)
    where
      not_lower : Dec (at ≡ j) → row_before s (row_at v j) (row_at v at) ≡ false
      not_lower (yes e) = subst (λ (i : ℕ). row_before s (row_at v i) (row_at v at) ≡ false) e (row_irrefl s (row_at v at))
      not_lower (no e) = sorted_at s v n at j sorted.sorted (omega arith) (omega (arith, cut.few))

      not_higher : locator_before key (key_of s (row_at v j)) ≡ false
      not_higher = not-true _ (keep_in (reached s key) (rows_of v n) (subst (λ (xs : List Row). row_at v j ∈ xs) cut.rows (row_in v m j k))).1

  -- so at most as many are left as came before the middle and are at its locator
  pub cut_short : (limit : ℕ) → FewAt s u n limit → m ≤ at + limit
  unfolding FewAt rows_at rows_of
  cut_short limit few =
      omega (
        arith,
        few key,
        permuted_length (permuted_keep test sorted.permuted),
        ap length split,
        ap length later,
        length_rows v at (m - at),
        length-append (keep test (rows_of v at)) (keep test (rows_from v at (m - at))),
        length-append (keep test (rows_of v m))
            (keep test (rows_from v m (n - m))),
        ap length whole,
        cut.more,
      )
    where
      test : Row → Bool
      test e = same_locator (key_of s e) key

      later : keep test (rows_from v at (m - at)) ≡ rows_from v at (m - at)
      later =
          keep_all test (rows_from v at (m - at))
          (subst (λ (xs : List Row). Every (λ e. test e ≡ true) xs) (rows_back v at (m - at))
          (rows_every _ (m - at) (λ i l. rw (row_dropped v at i) (at_key (at + i) (omega arith) (omega arith)))))

      split : keep test (rows_of v m) ≡ keep test (rows_of v at) ++ keep test (rows_from v at (m - at))
      split = ap (keep test) (rows_split v at m (omega (arith, cut.more))) ∙ keep_append test (rows_of v at) (rows_from v at (m - at))

      whole : keep test (rows_of v n) ≡ keep test (rows_of v m) ++ keep test (rows_from v m (n - m))
      whole = ap (keep test) (rows_split v m n cut.few) ∙ keep_append test (rows_of v m) (rows_from v m (n - m))
