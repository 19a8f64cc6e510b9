-- Walking along the chain of a store gives the positions in ascending reference order. Assumes nothing.
use mathlib.Core.Path.{◌≡◌, refl, sym, ap, ◌∙◌}
use mathlib.Core.Bool.{true}
use mathlib.Core.List.{List, [], ◌∷◌, ◌++◌, map}
use Prim.Native.Nat.{ℕ, suc, ◌+◌, ◌<◌, ◌≤◌}
use native.Mathlib.Omega.{arith}
use native.Mathlib.Numerals.{add-one}
use lib.ListN.{length, get_or, set, take, drop, length-map, length-set, get_or-map, take-append-drop}
use lib.Seq.{drop-cons, take-suc, take-suc-set, take-length, length-take-le}
use Rattle.base.specs.Le.{Bytes, le_at}
use Rattle.base.proofs.Lists.{every_in}
use Rattle.base.proofs.Places.{in_place}
use Rattle.record_spec.specs.Record.{no_block}
use Rattle.store_spec.specs.Layout.{Entry, entries, position_of, first_position, ascending}
use Rattle.store_spec.specs.Store.{block_count, records_of}
use Rattle.store_spec.specs.Entry.{sorted_positions, laid_out, is_entry}
use Rattle.store_spec.specs.Step.{first}
use Rattle.store_spec.proofs.Chain.{least_first, next_after}
use Rattle.store_spec.proofs.Search.{laid_out_lem, order_entry}
use Rattle.store_spec.proofs.Visit.{ascending_in, length_ascending, length_entries}

first_place : (ys : List Entry) → position_of (first ys) ≡ get_or (map (λ e. e.position) ys) 0 0
unfolding position_of first
first_place [] = refl
first_place (y ∷ ys) = refl

place_after : (xs ys : List Entry) (e : Entry) → get_or (map (λ d. d.position) (xs ++ e ∷ ys)) (suc (length xs)) 0 ≡ position_of (first ys)
place_after [] ys e = sym (first_place ys)
place_after (x ∷ xs) ys e = place_after xs ys e

module _ (s : Bytes) (h : laid_out s ≡ true) where
  abbrev sorted : List ℕ
  sorted = sorted_positions (records_of s)

  abbrev es : List Entry
  es = entries (records_of s)

  pub sorted_count : length sorted ≡ length (records_of s)
  unfolding sorted_positions
  sorted_count = length-map (ascending es) (λ e. e.position) ∙ length_ascending es ∙ length_entries (records_of s)

  pub block_count_lem : block_count s ≡ length (records_of s)
  block_count_lem = sym (laid_out_lem s h).reads.many

  pub chain_first : le_at 4 s 0 ≡ get_or sorted 0 0
  unfolding sorted_positions first_position
  chain_first = (laid_out_lem s h).chain.first ∙ ap position_of (least_first es) ∙ first_place (ascending es)

  pub chain_next : (k : ℕ) → k < length sorted → le_at 4 s (get_or sorted k 0) ≡ get_or sorted (k + 1) 0
  unfolding sorted_positions
  chain_next k n =
      let no_entry : Entry = record { position = 0; bytes = []; block = no_block } in
      let asc : List Entry = ascending es in
      let m : k < length asc = omega (arith, length-map asc (λ e. e.position)) in
      let e : Entry = get_or asc k no_entry in
      let parts : asc ≡ take k asc ++ e ∷ drop (suc k) asc = sym (take-append-drop k asc) ∙ ap (λ (l : List Entry). take k asc ++ l)
      (drop-cons asc k no_entry m) in
      let long : length (take k asc) ≡ k = length-take-le k asc (omega arith) in
      let stored = ascending_in es e (in_place no_entry asc k m) in
      ap (le_at 4 s) (get_or-map (λ d. d.position) asc k no_entry)
      ∙ every_in es e (laid_out_lem s h).chain.next stored
      ∙ next_after es (take k asc) (drop (suc k) asc) e (laid_out_lem s h).chain.distinct parts
      ∙ sym (place_after (take k asc) (drop (suc k) asc) e)
      ∙ ap (λ (n : ℕ). get_or (map (λ d. d.position) (take k asc ++ e ∷ drop (suc k) asc)) n 0) (ap suc long ∙ sym (add-one k))
      ∙ ap (λ (l : List Entry). get_or (map (λ d. d.position) l) (k + 1) 0) (sym parts)

  pub sorted_entry : (k : ℕ) → k < length sorted → is_entry s (get_or sorted k 0) ≡ true
  sorted_entry k n = order_entry s h sorted refl k n

-- what the walk has after k steps
pub record Walked (s : Bytes) (order₀ order : List ℕ) (at k : ℕ) : Type 0 where
  pub inside : k ≤ block_count s
  pub same_size : length order ≡ length order₀
  pub there : at ≡ get_or (sorted_positions (records_of s)) k 0
  pub kept : take k order ≡ take k (sorted_positions (records_of s))

module _ (s : Bytes) (h : laid_out s ≡ true) where
  pub walked_step : (order₀ order : List ℕ) (at k : ℕ) → Walked s order₀ order at k → k < block_count s → k < length order → (next : ℕ) → next ≡ le_at 4 s at
      → Walked s order₀ (set order k at) next (k + 1)
  walked_step order₀ order at k w a b next e =
      let sp : List ℕ = sorted_positions (records_of s) in
      let n : k < length sp = omega (arith, sorted_count s h, block_count_lem s h) in
      record {
        inside = omega arith;
        same_size = length-set order k at ∙ w.same_size;
        there = e ∙ ap (le_at 4 s) w.there ∙ chain_next s h k n;
        kept = rw (add-one k, take-suc-set order k at b, take-suc sp k 0 n, w.kept, w.there);
      }

  pub walked_end : (order₀ order : List ℕ) (at : ℕ) → Walked s order₀ order at (block_count s) → take (block_count s) order ≡ sorted_positions (records_of s)
  walked_end order₀ order at w =
      w.kept ∙ ap (λ (n : ℕ). take n (sorted_positions (records_of s))) (block_count_lem s h ∙ sym (sorted_count s h))
      ∙ take-length (sorted_positions (records_of s))
