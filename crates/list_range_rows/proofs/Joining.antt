-- Rows joined one after the other: what holds of each, that they are apart, and that they cover the same. Assumes nothing.
use mathlib.Core.Path.{◌≡◌, refl, sym, ap, ◌∙◌}
use mathlib.Core.Bool.{Bool, true, false, ◌||◌, or-false, or_assoc}
use mathlib.Core.List.{List, [], ◌∷◌, ◌++◌}
use native.Mathlib.Omega.{arith}
use Rattle.base.specs.Lists.{pick, any_of}
use Rattle.base.specs.Le.{Bytes}
use Rattle.base.proofs.Lists.{Every, none_of, and, Pairs, no_pairs, with_later}
use Rattle.record_spec.specs.Reference.{TransactionLocator}
use Rattle.list_row_sort.specs.Rows.{Row, key_of, row_before}
use Rattle.list_range_rows.specs.Ranges.{new_row, row_covers, any_covers, ends_before, Apart, Proper}
use Rattle.list_range_rows.specs.Step.{widened, join_last, join_in, join_onto}
use Rattle.list_range_rows.proofs.Ranges.{later_of, apart_on, covers_widened}

module _ (s : Bytes) where
  -- ---- what holds of each

  module _ {P : Row → Type 0} (r : Row) (own : P r) (wide : (q : Row) → P q → P (widened q r)) where
    every_in : (q : Row) (qs : List Row) → Every P (q ∷ qs) → Every P (join_in s q qs r)
    unfolding join_in join_last
    every_in q [] (and h none_of) = go (ends_before s q r)
      where
        go : (t : Bool) → Every P (pick t (q ∷ r ∷ []) (widened q r ∷ []))
        go true = and h (and own none_of)
        go false = and (wide q h) none_of
    every_in q (p ∷ ps) (and h hs) = and h (every_in p ps hs)

    pub every_join : (qs : List Row) → Every P qs → Every P (join_onto s qs r)
    unfolding join_onto
    every_join [] none_of = and own none_of
    every_join (q ∷ qs) h = every_in q qs h

  wide_proper : (r q : Row) → Proper s q → Proper s (widened q r)
  unfolding widened new_row
  wide_proper r q h = record { inside = h.inside; filled = omega (arith, h.filled, (later_of q.mark r.mark).first) }

  pub proper_join : (qs : List Row) (r : Row) → Every (Proper s) qs → Proper s r → Every (Proper s) (join_onto s qs r)
  proper_join qs r h k = every_join r k (wide_proper r) qs h

  -- no row that is yet to come is before one of them
  pub below_join : (x : Row) (qs : List Row) (r : Row) → Every (λ q. row_before s x q ≡ false) qs → row_before s x r ≡ false → Every
      (λ q. row_before s x q ≡ false) (join_onto s qs r)
  unfolding row_before key_of widened new_row
  below_join x qs r h k = every_join {P = λ (q : Row). row_before s x q ≡ false} r k (λ q e. e) qs h

  -- ---- apart

  apart_in : (x r q : Row) (qs : List Row) → Every (Apart s x) (q ∷ qs) → Apart s x r → Every (Apart s x) (join_in s q qs r)
  unfolding Apart ends_before key_of widened new_row
  apart_in x r q qs h k = every_in {P = Apart s x} r k (λ y e. e) q qs h

  pairs_in : (r q : Row) (qs : List Row) → Pairs (Apart s) (q ∷ qs) → Every (λ x. row_before s r x ≡ false) (q ∷ qs) → Pairs (Apart s) (join_in s q qs r)
  unfolding join_in join_last Apart
  pairs_in r q [] h k = go (ends_before s q r) refl
    where
      go : (t : Bool) → ends_before s q r ≡ t → Pairs (Apart s) (pick t (q ∷ r ∷ []) (widened q r ∷ []))
      go true e = with_later (and e none_of) (with_later none_of no_pairs)
      go false e = with_later none_of no_pairs
  pairs_in r q (p ∷ ps) (with_later (and h hs) k) (and a (and b bs)) = with_later (apart_in q r p ps (and h hs) (apart_on s q p r h b))
      (pairs_in r p ps k (and b bs))

  pub pairs_join : (qs : List Row) (r : Row) → Pairs (Apart s) qs → Every (λ x. row_before s r x ≡ false) qs → Pairs (Apart s) (join_onto s qs r)
  unfolding join_onto
  pairs_join [] r h k = with_later none_of no_pairs
  pairs_join (q ∷ qs) r h k = pairs_in r q qs h k

  -- ---- the same locators

  module _ (l : TransactionLocator) where
    covers_in : (r q : Row) (qs : List Row) → Every (Proper s) (q ∷ qs) → Every (λ x. row_before s r x ≡ false) (q ∷ qs) → any_covers s (join_in s q qs r) l ≡
        any_covers s (q ∷ qs) l || row_covers s l r
    unfolding join_in join_last any_covers any_of
    covers_in r q [] (and p none_of) (and h none_of) = go (ends_before s q r) refl
      where
        go : (t : Bool) → ends_before s q r ≡ t → any_of (row_covers s l) (pick t (q ∷ r ∷ []) (widened q r ∷ [])) ≡ (row_covers s l q || false)
            || row_covers s l r
        go true e = rw (or-false (row_covers s l r), or-false (row_covers s l q))
        go false e = rw (or-false (row_covers s l (widened q r)), or-false (row_covers s l q)) (covers_widened s q r p h e l)
    covers_in r q (p ∷ ps) (and a as') (and h hs) = ap (λ (t : Bool). row_covers s l q || t) (covers_in r p ps as' hs) ∙ sym
        (or_assoc (row_covers s l q) (any_of (row_covers s l) (p ∷ ps)) (row_covers s l r))

    pub covers_join : (qs : List Row) (r : Row) → Every (Proper s) qs → Every (λ x. row_before s r x ≡ false) qs → any_covers s (join_onto s qs r) l
        ≡ any_covers
        s qs l || row_covers s l r
    unfolding join_onto any_covers any_of
    covers_join [] r h k = or-false (row_covers s l r)
    covers_join (q ∷ qs) r h k = covers_in r q qs h k

  -- ---- the last of them

  pub join_last_lem : (front : List Row) (last r : Row) → join_onto s (front ++ last ∷ []) r ≡ front ++ join_last s last r
  unfolding join_onto join_in
  join_last_lem [] last r = refl
  join_last_lem (q ∷ []) last r = refl
  join_last_lem (q ∷ p ∷ ps) last r = ap (λ (xs : List Row). q ∷ xs) (join_last_lem (p ∷ ps) last r)
