-- Where a new block goes among the positions in ascending reference order. Assumes nothing.
use mathlib.Core.Path.{◌≡◌, refl, sym, ap, subst, ◌∙◌}
use mathlib.Core.List.{List, [], ◌∷◌}
use mathlib.Core.Option.{none}
use mathlib.Core.Bool.{true, false}
use Prim.Native.Nat.{ℕ, zero, suc, ◌+◌, ◌-◌, ◌<◌, ◌≤◌}
use native.Mathlib.Omega.{arith}
use native.Mathlib.Decide.{dec_lt}
use native.Mathlib.Numerals.{sub-one}
use lib.ListN.{length, get_or, take, drop, length-map, length-drop, take-append-drop, drop_of_length-le, get_or-map, get_or-eq_default}
use lib.Seq.{take-suc, drop-cons, get_or-take, get_or-drop, length-take-le}
use Rattle.base.specs.Lists.{◌∈◌, is_none}
use Rattle.base.specs.Le.{Bytes}
use Rattle.base.proofs.Tests.{not_both}
use Rattle.base.proofs.Lists.{every_in}
use Rattle.base.proofs.Places.{in_place, places_every}
use Rattle.record_spec.specs.Reference.{BlockReference, reference_before}
use Rattle.record_spec.specs.Block.{Block}
use Rattle.record_spec.specs.Record.{no_block}
use Rattle.record_reference_search.specs.Places.{reference_from, Between, FoundAmong}
use Rattle.record_spec.proofs.References.{reference_same, reference_trans}
use Rattle.types.specs.Values.{reference_order}
use Rattle.std.specs.declared.cmp.Ordering.TheVariants.{Less, Equal, Greater}
use Rattle.types.proofs.Words.{compared_less, compared_equal, compared_greater}
use Rattle.store_spec.specs.Layout.{Entry, reference_of, entries, position_of, ascending, lookup}
use Rattle.store_spec.specs.Accept.{is_stored}
use Rattle.store_spec.specs.Store.{records_of}
use Rattle.store_spec.specs.Entry.{block_at, sorted_positions, laid_out}
use Rattle.store_spec.specs.Step.{first}
use Rattle.store_spec.proofs.Loops.{block_of_entry}
use Rattle.store_spec.proofs.Lookups.{lookup_hit, stored_entry}
use Rattle.store_spec.proofs.Found.{found_none}
use Rattle.store_spec.proofs.Search.{laid_out_lem, reference_in, order_entry, order_rises, found_nowhere}
use Rattle.store_spec.proofs.Visit.{ascending_in}
use Rattle.store_entries.proofs.Placed.{entry_reference}
use Rattle.store_lookup.specs.Step.{LastAt, none_last, last_at, Neighbours}
use Rattle.std.specs.Prelude.{Err, Ok, Result}

-- the position before a place, zero before the first
pub place_before : (order : List ℕ) (k : ℕ) → (k ≡ 0 → ⊥) → get_or order (k - 1) 0 ≡ get_or (0 ∷ order) k 0
place_before order zero h = absurd (h refl)
place_before order (suc j) h = rw (sub-one (suc j))

-- of the positions in ascending reference order those from a place on are of blocks higher than a reference
pub record Above (s : Bytes) (order : List ℕ) (r : BlockReference) (left : ℕ) : Type 0 where
  pub within : left ≤ length order
  pub higher : (j : ℕ) → left ≤ j → j < length order → reference_before r (reference_in s order j) ≡ true

no_entry : Entry
no_entry = record { position = 0; bytes = []; block = no_block }

module _ (s : Bytes) (h : laid_out s ≡ true) (order : List ℕ) (q : order ≡ sorted_positions (records_of s)) where
  abbrev es : List Entry
  es = entries (records_of s)

  abbrev asc : List Entry
  asc = ascending es

  many : length order ≡ length asc
  unfolding sorted_positions
  many = ap length q ∙ length-map asc (λ e. e.position)

  place : (j : ℕ) → get_or order j 0 ≡ (get_or asc j no_entry).position
  unfolding sorted_positions no_entry
  place j = ap (λ (l : List ℕ). get_or l j 0) q ∙ get_or-map (λ e. e.position) asc j no_entry

  stored : (j : ℕ) → j < length order → get_or asc j no_entry ∈ es
  stored j l = ascending_in es (get_or asc j no_entry) (in_place no_entry asc j (omega (arith, many)))

  stands : (j : ℕ) → j < length order → reference_from s order 8 j ≡ reference_of (get_or asc j no_entry)
  unfolding reference_from
  stands j l =
      (entry_reference s (get_or order j 0) (order_entry s h order q j l)).1
      ∙ ap (λ (p : ℕ). (block_at s p).reference) (place j)
      ∙ ap (λ (b : Block). b.reference) (block_of_entry s (laid_out_lem s h).reads (get_or asc j no_entry) (stored j l))

  -- the reference of a block that is not stored is found nowhere
  pub found_not : (r : BlockReference) (p : Result ℕ ℕ) (j : ℕ) → p ≡ Ok j → FoundAmong (length order) (reference_from s order 8) r p → is_stored (records_of s)
      r ≡ false → ⊥
  unfolding FoundAmong
  found_not r p j e f new =
      let g = subst (FoundAmong (length order) (reference_from s order 8) r) e f in
      not_both (stored_entry (records_of s) r (get_or asc j no_entry) (stored j g.0) (sym (stands j g.0) ∙ g.1)) new

  last_lower : (k : ℕ) → k ≤ length asc → LastAt (take k asc) (get_or (0 ∷ order) k 0)
  last_lower zero l = none_last
  last_lower (suc j) l =
      rw (take-suc asc j no_entry (omega arith), place j) (last_at (take j asc) (get_or asc j no_entry))

  first_higher : (k : ℕ) → get_or order k 0 ≡ position_of (first (drop k asc))
  unfolding position_of first
  first_higher k = go (dec_lt k (length asc))
    where
      go : Dec (k < length asc) → get_or order k 0 ≡ position_of (first (drop k asc))
      go (yes l) = place k ∙ rw (drop-cons asc k no_entry l)
      go (no l) = get_or-eq_default order 0 {n = k} (omega (arith, many)) ∙ rw (drop_of_length-le asc {i = k} (omega arith))

  -- where it goes there are so many before it
  pub goes_within : (r : BlockReference) (p : Result ℕ ℕ) (k : ℕ) → p ≡ Err k → FoundAmong (length order) (reference_from s order 8) r p → k ≤ length order
  unfolding FoundAmong
  goes_within r p k e f = (subst (FoundAmong (length order) (reference_from s order 8) r) e f).most

  -- it goes between those before its place and those from there on
  pub goes_between : (r : BlockReference) (p : Result ℕ ℕ) (k : ℕ) → p ≡ Err k → FoundAmong (length order) (reference_from s order 8) r p
      → Neighbours s r (get_or (0 ∷ order) k 0) (get_or order k 0)
  unfolding FoundAmong
  goes_between r p k e f =
      record {
        lower = take k asc;
        higher = drop k asc;
        sorted = sym (take-append-drop k asc);
        last = last_lower k (omega (arith, many, b.most));
        next = first_higher k;
        low = λ d m. every_in {P = λ x. reference_before (reference_of x) r ≡ true} (take k asc) d (places_every no_entry (take k asc) low) m;
        high = λ d m. every_in {P = λ x. reference_before r (reference_of x) ≡ true} (drop k asc) d (places_every no_entry (drop k asc) high) m;
      }
    where
      b : Between (length order) (reference_from s order 8) r k
      b = subst (FoundAmong (length order) (reference_from s order 8) r) e f

      low : (j : ℕ) → j < length (take k asc) → reference_before (reference_of (get_or (take k asc) j no_entry)) r ≡ true
      low j l =
          let under : j < k = omega (arith, length-take-le k asc (omega (arith, many, b.most))) in
          rw (get_or-take k asc j no_entry under, ← stands j (omega (arith, many, b.most))) (b.below j under)

      high : (j : ℕ) → j < length (drop k asc) → reference_before r (reference_of (get_or (drop k asc) j no_entry)) ≡ true
      high j l =
          let within : k + j < length order = omega (arith, many, length-drop k asc, b.most) in
          rw (get_or-drop k asc j no_entry, ← stands (k + j) within) (b.above (k + j) (omega arith) within)

  -- ---- along the chain from its high end

  -- those from a place on are higher than a reference
  pub above_start : (r : BlockReference) → Above s order r (length order)
  above_start r = record { within = omega arith; higher = λ j l k. absurd (omega arith) }

  module _ (r : BlockReference) (left : ℕ) (a : Above s order r left) where
    -- none of them is the reference, and none below a lower one
    nowhere : ((j : ℕ) → j < left → reference_before (reference_in s order j) r ≡ true) → lookup es r ≡ none
    nowhere f =
        found_none s h r 0
        (found_nowhere s h order q r left left (omega arith) (record { order = omega arith; inside = a.within; below = f; above = a.higher })) refl

    pub above_end : left ≤ 0 → lookup es r ≡ none
    above_end l = nowhere (λ j k. absurd (omega arith))

    -- by what comparing the next one down tells
    module _ (l : 0 < left) (x : BlockReference) (e : x ≡ reference_in s order (left - 1)) where
      pub below_hit : reference_order x r ≡ Equal → is_none (lookup es r) ≡ false
      unfolding is_none reference_in
      below_hit o =
          let j : ℕ = left - 1 in
          let inside : j < length order = omega (arith, a.within) in
          let own : reference_of (get_or asc j no_entry) ≡ r =
          sym (ap (λ (p : ℕ). (block_at s p).reference) (place j) ∙ ap (λ (b : Block). b.reference)
          (block_of_entry s (laid_out_lem s h).reads (get_or asc j no_entry) (stored j inside)))
          ∙ sym e ∙ reference_same x r (compared_equal x r o) in
          rw (lookup_hit es (laid_out_lem s h).chain.distinct (get_or asc j no_entry) (stored j inside) r own)

      pub below_past : reference_order x r ≡ Less → lookup es r ≡ none
      below_past o = nowhere lower
        where
          last : reference_before (reference_in s order (left - 1)) r ≡ true
          last = rw (← e) (compared_less x r o).1

          lower : (j : ℕ) → j < left → reference_before (reference_in s order j) r ≡ true
          lower j k = go (dec_lt j (left - 1))
            where
              go : Dec (j < left - 1) → reference_before (reference_in s order j) r ≡ true
              go (yes u) = reference_trans (reference_in s order j) (reference_in s order (left - 1)) r
                  (order_rises s h order q j (left - 1) u (omega (arith, a.within))) last
              go (no u) = let z : j ≡ left - 1 = omega arith in rw z last

      pub below_on : reference_order x r ≡ Greater → Above s order r (left - 1)
      below_on o = record { within = omega (arith, a.within); higher = higher }
        where
          higher : (j : ℕ) → left - 1 ≤ j → j < length order → reference_before r (reference_in s order j) ≡ true
          higher j u k = go (dec_lt j left)
            where
              go : Dec (j < left) → reference_before r (reference_in s order j) ≡ true
              go (yes v) = let z : j ≡ left - 1 = omega arith in rw (z, ← e) (compared_greater x r o).1
              go (no v) = a.higher j (omega arith) k
