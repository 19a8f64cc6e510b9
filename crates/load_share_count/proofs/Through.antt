-- The stored shares, block by block and offset by offset. Assumes nothing.
use mathlib.Core.Path.{◌≡◌, refl, sym, ap, ap₂, ◌∙◌}
use mathlib.Core.Bool.{true, false}
use mathlib.Core.List.{List, [], ◌∷◌, ◌++◌, map, map-append, flatten, append-nil}
use Prim.Native.Nat.{ℕ, ◌+◌, ◌<◌}
use native.Mathlib.Omega.{arith}
use native.Mathlib.Numerals.{add-one}
use lib.ListN.{length, take, get_or}
use lib.Seq.{take-suc, take-length}
use Rattle.base.specs.Lists.{keep, count_from, ◌∈◌, here, there}
use Rattle.base.specs.Le.{Bytes}
use Rattle.base.proofs.Lists.{keep_append, count_from_add, flatten_append}
use Rattle.committee.specs.Committee.{Committee}
use Rattle.record_spec.specs.Reference.{TransactionLocator, locator}
use Rattle.record_spec.specs.Block.{Block, is_share_at}
use Rattle.store_spec.specs.Layout.{Entry, entries, ascending}
use Rattle.store_spec.specs.Store.{records_of}
use Rattle.store_spec.specs.Entry.{block_at, sorted_positions}
use Rattle.store_spec.proofs.Visit.{ascending_in}
use Rattle.store_spec.proofs.Search.{laid_out_lem}
use Rattle.store_spec.proofs.Loops.{block_of_entry}
use Rattle.final_spec.specs.Finality.{blocks_of}
use Rattle.final_block_votes.specs.Walk.{Sorted}
use Rattle.list_ordinary_spec.specs.Shares.{shares_of, stored_shares}
use Rattle.list_ordinary_spec.proofs.Through.{through_entries}
use Rattle.load_share_count.specs.Through.{shares_below, shares_through}

-- ---- lists

map_through : {A B C : Type 0} (f : A → C) (g : B → C) (h : A → B) (xs : List A) → ((x : A) → x ∈ xs → f x ≡ g (h x)) → map f xs ≡ map g (map h xs)
map_through f g h [] e = refl
map_through {C = C} f g h (x ∷ xs) e = ap₂ {C = List C} (λ y ys. y ∷ ys) (e x here) (map_through f g h xs (λ y m. e y (there m)))

counted : (i n : ℕ) → count_from 0 (i + n) ≡ count_from 0 i ++ count_from i n
counted i n = let z : 0 + i ≡ i = omega arith in count_from_add 0 i n ∙ ap (λ (m : ℕ). count_from 0 i ++ count_from m n) z

-- ---- block by block

pub through_none : (s : Bytes) (order : List ℕ) → shares_through s order 0 ≡ []
unfolding shares_through flatten
through_none s order = refl

module _ (c : Committee) (s : Bytes) (order : List ℕ) (o : Sorted c s order) where
  abbrev shares_at : ℕ → List TransactionLocator
  shares_at p = shares_of (block_at s p)

  -- all of them
  pub through_all : stored_shares (blocks_of s) ≡ shares_through s order (length order)
  unfolding shares_through sorted_positions
  through_all =
      let es : List Entry = ascending (entries (records_of s)) in
      through_entries c s o.in_order
      ∙ ap flatten (map_through (λ e. shares_of e.block) shares_at (λ e. e.position) es
      (λ e m. ap shares_of (sym (block_of_entry s (laid_out_lem s o.laid).reads e (ascending_in (entries (records_of s)) e m)))))
      ∙ ap (λ (ps : List ℕ). flatten (map shares_at ps)) (sym o.places ∙ sym (take-length order))

  module _ (k : ℕ) (h : k < length order) where
    pub through_next : shares_through s order (k + 1) ≡ shares_through s order k ++ shares_at (get_or order k 0)
    unfolding shares_through flatten
    through_next =
        ap (λ (n : ℕ). flatten (map shares_at (take n order))) (add-one k)
        ∙ ap (λ (ps : List ℕ). flatten (map shares_at ps)) (take-suc order k 0 h)
        ∙ ap flatten (map-append shares_at (take k order) (get_or order k 0 ∷ []))
        ∙ flatten_append (map shares_at (take k order)) (shares_at (get_or order k 0) ∷ [])
        ∙ ap (λ (l : List TransactionLocator). shares_through s order k ++ l) (append-nil (shares_at (get_or order k 0)))

-- ---- offset by offset

module _ (b : Block) where
  abbrev at : ℕ → TransactionLocator
  at o = locator b.reference o

  pub below_none : shares_below b 0 ≡ []
  unfolding shares_below count_from keep
  below_none = refl

  pub below_all : shares_below b (length b.statements) ≡ shares_of b
  unfolding shares_below shares_of
  below_all = refl

  below_on : (i : ℕ) → shares_below b (i + 1) ≡ shares_below b i ++ map at (keep (is_share_at b) (i ∷ []))
  unfolding shares_below count_from
  below_on i =
      ap (λ (os : List ℕ). map at (keep (is_share_at b) os)) (counted i 1)
      ∙ ap (λ (os : List ℕ). map at os) (keep_append (is_share_at b) (count_from 0 i) (i ∷ []))
      ∙ map-append at (keep (is_share_at b) (count_from 0 i)) (keep (is_share_at b) (i ∷ []))

  pub below_share : (i : ℕ) → is_share_at b i ≡ true → shares_below b (i + 1) ≡ shares_below b i ++ at i ∷ []
  unfolding keep
  below_share i h = below_on i ∙ rw h

  pub below_other : (i : ℕ) → is_share_at b i ≡ false → shares_below b (i + 1) ≡ shares_below b i
  unfolding keep
  below_other i h = below_on i ∙ rw h (append-nil (shares_below b i))
