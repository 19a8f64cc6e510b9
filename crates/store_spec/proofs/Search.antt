-- Binary search by reference among the positions in ascending reference order. Assumes nothing.
use mathlib.Core.Path.{◌≡◌, sym, ap, subst, ◌∙◌}
use mathlib.Core.Logic.{◌⊎◌, inl, inr}
use mathlib.Core.List.{List, []}
use mathlib.Core.Bool.{true}
use Prim.Native.Nat.{ℕ, ◌<◌, ◌≤◌}
use native.Mathlib.Omega.{arith}
use lib.ListN.{length, get_or, length-map, get_or-map}
use Rattle.base.specs.Lists.{◌∈◌}
use Rattle.base.specs.Le.{Bytes}
use Rattle.base.proofs.Tests.{and_left, and_right}
use Rattle.base.proofs.Lists.{Every, every_in}
use Rattle.base.proofs.Narrowed.{Narrowed, narrowed_all}
use Rattle.base.proofs.Places.{in_place, places_every, pairs_places}
use Rattle.record_spec.specs.Reference.{BlockReference, reference_before}
use Rattle.record_spec.specs.Record.{no_block}
use Rattle.record_spec.proofs.References.{reference_irrefl}
use Rattle.store_spec.specs.Layout.{Entry, reference_of, entries, position_of, ascending, lookup}
use Rattle.store_spec.specs.Store.{records_of}
use Rattle.store_spec.specs.Entry.{block_at, sorted_positions, readable, laid_out, is_entry}
use Rattle.store_spec.proofs.Chain.{ascending_ascends}
use Rattle.store_spec.proofs.Check.{Readable, is_readable, Chained, is_chained}
use Rattle.store_spec.proofs.Visit.{ascending_in, in_ascending}
use Rattle.store_spec.proofs.Loops.{is_entry_lem, block_of_entry}
use Rattle.store_spec.proofs.Lookups.{lookup_hit, lookup_miss}

-- what a store laid out has
pub record LaidOut (s : Bytes) : Type 0 where
  pub tested : readable s ≡ true
  pub reads : Readable s
  pub chain : Chained s (entries (records_of s))

pub laid_out_lem : (s : Bytes) → laid_out s ≡ true → LaidOut s
unfolding laid_out
laid_out_lem s h =
    record { tested = and_left (readable s) _ h; reads = is_readable s (and_left (readable s) _ h); chain = is_chained s (and_right (readable s) _ h) }

-- the reference at a place
unfoldable pub reference_in : Bytes → List ℕ → ℕ → BlockReference
reference_in s order j = (block_at s (get_or order j 0)).reference

no_entry : Entry
no_entry = record { position = 0; bytes = []; block = no_block }

module _ (s : Bytes) (h : laid_out s ≡ true) (order : List ℕ) (q : order ≡ sorted_positions (records_of s)) where
  abbrev es : List Entry
  es = entries (records_of s)

  sorted : ℕ → Entry
  sorted j = get_or (ascending es) j no_entry

  many : length order ≡ length (ascending es)
  unfolding sorted_positions
  many = ap length q ∙ length-map (ascending es) (λ e. e.position)

  place : (j : ℕ) → get_or order j 0 ≡ (sorted j).position
  unfolding sorted_positions no_entry sorted
  place j = ap (λ (l : List ℕ). get_or l j 0) q ∙ get_or-map (λ e. e.position) (ascending es) j no_entry

  stored : (j : ℕ) → j < length order → sorted j ∈ es
  unfolding sorted
  stored j l = ascending_in es (sorted j) (in_place no_entry (ascending es) j (omega (arith, many)))

  reference_is : (j : ℕ) → j < length order → reference_in s order j ≡ reference_of (sorted j)
  unfolding reference_in
  reference_is j l = ap (λ (p : ℕ). (block_at s p).reference) (place j)
      ∙ ap (λ b. b.reference) (block_of_entry s (laid_out_lem s h).reads (sorted j) (stored j l))

  pub order_entry : (j : ℕ) → j < length order → is_entry s (get_or order j 0) ≡ true
  order_entry j l = rw (place j) (is_entry_lem s (sorted j) (laid_out_lem s h).tested (stored j l))

  pub order_rises : (i j : ℕ) → i < j → j < length order → reference_before (reference_in s order i) (reference_in s order j) ≡ true
  unfolding sorted
  order_rises i j a b =
      rw (reference_is i (omega arith), reference_is j b)
      (pairs_places no_entry (ascending es) i j (ascending_ascends es (laid_out_lem s h).chain.distinct) a (omega (arith, many)))

  pub found_there : (j : ℕ) (r : BlockReference) → j < length order → reference_in s order j ≡ r → get_or order j 0 ≡ position_of (lookup es r)
  unfolding position_of
  found_there j r l e = rw (lookup_hit es (laid_out_lem s h).chain.distinct (sorted j) (stored j l) r (sym (reference_is j l) ∙ e)) (place j)

  pub found_nowhere : (r : BlockReference) (low high : ℕ) → high ≤ low
      → Narrowed (length order) (λ j. reference_before (reference_in s order j) r ≡ true) (λ j. reference_before r (reference_in s order j) ≡ true) low high → 0
      ≡
      position_of (lookup es r)
  unfolding position_of sorted
  found_nowhere r low high l n = rw (lookup_miss es r (λ e m. every_in (ascending es) e others (in_ascending es e m)))
    where
      by_side : (j : ℕ) → j < length order → reference_of (sorted j) ≡ r → (reference_before (reference_in s order j) r ≡ true) ⊎
          (reference_before r (reference_in s order j) ≡ true) → ⊥
      by_side j k e (inl t) = reference_irrefl r (subst (λ (x : BlockReference). reference_before x r ≡ true) (reference_is j k ∙ e) t)
      by_side j k e (inr t) = reference_irrefl r (subst (λ (x : BlockReference). reference_before r x ≡ true) (reference_is j k ∙ e) t)

      others : Every (λ e. reference_of e ≡ r → ⊥) (ascending es)
      others = places_every no_entry (ascending es) (λ j k e. by_side j (omega (arith, many)) e
          (narrowed_all (length order) _ _ low high l n j (omega (arith, many))))
