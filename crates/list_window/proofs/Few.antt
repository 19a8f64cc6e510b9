-- At most one edge of a block is at a locator, so at most as many as there are blocks. Assumes nothing.
use mathlib.Core.Path.{◌≡◌, refl, sym, ap, subst, ◌∙◌}
use mathlib.Core.Bool.{Bool, true, false}
use mathlib.Core.List.{List, [], ◌∷◌}
use Prim.Native.Nat.{ℕ, ◌+◌, ◌≤◌}
use native.Mathlib.Omega.{arith}
use lib.ListN.{length, length-append}
use Rattle.base.specs.Lists.{pick, keep}
use Rattle.base.specs.Le.{Bytes}
use Rattle.base.proofs.Tests.{fails}
use Rattle.base.proofs.Lists.{Every, none_of, and, every, Pairs, no_pairs, with_later, keep_append}
use Rattle.record_spec.specs.Reference.{TransactionLocator, locator_before, same_locator}
use Rattle.record_spec.proofs.References.{locator_same, locator_irrefl, locator_trans}
use Rattle.list_row_sort.specs.Rows.{Row, key_of, row_before}
use Rattle.list_range_rows.specs.Ranges.{new_row, ends_before, Apart, Proper}
use Rattle.list_edge_rows.specs.Edges.{start_edge, end_edge, edges_of, edges_from}
use Rattle.list_edge_rows.proofs.Order.{start_before}
use Rattle.list_edge_rows.proofs.Together.{keep_none}
use Rattle.list_cuts.specs.Room.{rows_at}

-- rows of which each is before every later one
abbrev pub Strict : Bytes → List Row → Type 0
Strict s rows = Pairs (λ r q. row_before s r q ≡ true) rows

module _ (s : Bytes) where
  before_on : (r q p : Row) → row_before s r q ≡ true → row_before s q p ≡ true → row_before s r p ≡ true
  unfolding row_before
  before_on r q p = locator_trans (key_of s r) (key_of s q) (key_of s p)

  -- ---- the edges of a block

  module _ (k : ℕ) where
    apart_start : (r q : Row) → Apart s r q → row_before s (end_edge k r) (start_edge k q) ≡ true
    unfolding Apart ends_before row_before key_of start_edge end_edge new_row
    apart_start r q h = h

    after_end : (r : Row) (rs : List Row) → Every (Apart s r) rs → Every (Proper s) rs → Every (λ e. row_before s (end_edge k r) e ≡ true) (edges_of k rs)
    unfolding edges_of
    after_end r [] none_of none_of = none_of
    after_end r (q ∷ qs) (and h hs) (and p ps) =
        let first = apart_start r q h in
        and first (and (before_on (end_edge k r) (start_edge k q) (end_edge k q) first (start_before s k q p)) (after_end r qs hs ps))

    pub edges_strict : (rs : List Row) → Every (Proper s) rs → Pairs (Apart s) rs → Strict s (edges_of k rs)
    unfolding edges_of
    edges_strict [] none_of no_pairs = no_pairs
    edges_strict (r ∷ rs) (and p ps) (with_later h hs) =
        let own = start_before s k r p in
        let rest = after_end r rs h ps in
        with_later (and own (every (λ e l. before_on (start_edge k r) (end_edge k r) e own l) (edges_of k rs) rest)) (with_later rest (edges_strict rs ps hs))

  -- ---- at one locator

  module _ (l : TransactionLocator) where
    one_at : (rows : List Row) → Strict s rows → length (rows_at s l rows) ≤ 1
    unfolding rows_at keep row_before
    one_at [] no_pairs = omega arith
    one_at (r ∷ rs) (with_later h hs) = go (same_locator (key_of s r) l) refl (one_at rs hs)
      where
        others : same_locator (key_of s r) l ≡ true → Every (λ e. same_locator (key_of s e) l ≡ false) rs
        others e =
            every
            (λ q b. fails (same_locator (key_of s q) l) (λ f. locator_irrefl (key_of s q)
            (subst (λ (m : TransactionLocator). locator_before m (key_of s q) ≡ true) (locator_same _ _ e ∙ sym (locator_same _ _ f)) b)))
            rs h

        go : (t : Bool) → same_locator (key_of s r) l ≡ t → length (keep (λ e. same_locator (key_of s e) l) rs) ≤ 1
            → length (pick t (r ∷ keep (λ e. same_locator (key_of s e) l) rs) (keep (λ e. same_locator (key_of s e) l) rs)) ≤ 1
        go true e k = omega (arith, ap length (keep_none (λ x. same_locator (key_of s x) l) rs (others e)))
        go false e k = k

    -- of several blocks
    pub few_at : (i : ℕ) (rss : List (List Row)) → Every (λ rs. Every (Proper s) rs × Pairs (Apart s) rs) rss → length (rows_at s l (edges_from i rss)) ≤ length
        rss
    unfolding rows_at edges_from keep
    few_at i [] none_of = omega arith
    few_at i (rs ∷ rss) (and h hs) =
        omega (
          arith,
          ap length (keep_append (λ e. same_locator (key_of s e) l) (edges_of i rs) (edges_from (i + 1) rss)),
          length-append (keep (λ e. same_locator (key_of s e) l) (edges_of i rs)) (keep (λ e. same_locator (key_of s e) l) (edges_from (i + 1) rss)),
          one_at (edges_of i rs) (edges_strict i rs h.0 h.1),
          few_at (i + 1) rss hs,
        )
