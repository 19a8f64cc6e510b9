-- The table of the certifying blocks gives the slip. Assumes nothing.
use mathlib.Core.Path.{◌≡◌, refl, sym, ap, ap₂, ◌∙◌, subst}
use mathlib.Core.Bool.{true}
use mathlib.Core.List.{List, [], ◌∷◌, ◌++◌, map, flatten, append_assoc}
use Prim.Native.Nat.{ℕ, suc, ◌+◌, ◌<◌}
use native.Mathlib.Nat.{add-zero, zero-add}
use native.Mathlib.Omega.{arith}
use lib.ListN.{length, get_or, length-map}
use borrow.Author.Tests.{not-true}
use Rattle.base.specs.Lists.{count_from}
use Rattle.base.specs.Le.{Bytes, le_bytes}
use Rattle.committee_set.specs.AuthoritySet.{AuthoritySet, member, members, number_of_voters}
use Rattle.record_spec.specs.Reference.{BlockReference, TransactionLocator}
use Rattle.record_spec.specs.Block.{Block}
use Rattle.record_spec.specs.Record.{reference_bytes, locator_bytes}
use Rattle.store_spec.specs.Entry.{block_at}
use Rattle.final_spec.specs.Voters.{voters}
use Rattle.final_readings_spec.specs.Readings.{Reading}
use Rattle.final_readings_spec.specs.Readings as readings
use Rattle.final_readings_spec.proofs.VotersIn.{voters_in_old}
use Rattle.final_spec.specs.Finality.{blocks_of}
use Rattle.final_block_votes.specs.Walk.{SortedStore, block_at_place}
use Rattle.final_block_votes.proofs.Sorting.{sorted_well, place_stored}
use Rattle.slip_spec.specs.Slip.{voter_bytes, certifier_bytes, reading_byte, slip_bytes}
use Rattle.slip_spec.specs.Writing.{voter_of, certifier_of}
use Rattle.slip_spec.proofs.Coding.{voter_distance}
use Rattle.slip_write_distances.specs.Near.{away}
use Rattle.slip_write_routes.specs.Reached.{voter_at, voters_at}
use Rattle.slip_write_table.specs.Table.{place_in, voters_in, Listed}
use Rattle.slip_write_certifiers.specs.Ready.{certifier_bytes_at, certifiers_bytes}
use Rattle.slip_write_parts.specs.Listed.{Voted, head_bytes, listed_bytes}
use Rattle.slip_write_bytes.specs.Listed.{slip_at}

-- a list mapped, by its indexes
map_count : {B : Type 0} (f : ℕ → B) (g : ℕ → B) (xs : List ℕ) (j : ℕ) → ((i : ℕ) → i < length xs → g (j + i) ≡ f (get_or xs i 0)) → map g
    (count_from j (length xs)) ≡ map f xs
unfolding count_from
map_count f g [] j h = refl
map_count {B} f g (x ∷ xs) j h =
    ap₂ {C = List B} (λ y ys. y ∷ ys) (subst (λ (k : ℕ). g k ≡ f x) (add-zero j) (h 0 (omega arith)))
    (map_count f g xs (j + 1) (λ i m. let e : j + 1 + i ≡ j + suc i = omega arith in subst (λ (k : ℕ). g k ≡ f (get_or xs i 0)) (sym e)
    (h (suc i) (omega arith))))

map_twice : {A B C : Type 0} (f : B → C) (g : A → B) (xs : List A) → map f (map g xs) ≡ map (λ x. f (g x)) xs
map_twice f g [] = refl
map_twice {C = C} f g (x ∷ xs) = ap {B = List C} (λ ys. f (g x) ∷ ys) (map_twice f g xs)

module _ (reading : Reading) (s : Bytes) (order : List ℕ) (l : TransactionLocator) (ps t : List ℕ) (w : Listed reading s order l ps t (length ps)) where
  -- whoever votes in a reading votes
  old_member : (r : Reading) (a : ℕ) (b : BlockReference) → member (readings.voters_in r (blocks_of s) l b) a ≡ true → member (voters (blocks_of s) l b) a
      ≡ true
  old_member r a b h = unfold readings.voters_in in voters_in_old r (blocks_of s) l b a h

  -- of each voter of the block a vote is some way away
  pub listed_voted : SortedStore s order → Voted s order l t (length ps)
  unfolding Voted away
  listed_voted o i h = (
    w.places i h,
    λ a m e.
        not-true _
        (sym (voter_distance (sorted_well s order o) l a (block_at_place s order (place_in t i)) (place_stored s order o (place_in t i) (w.places i h)))
        ∙ old_member reading a (block_at_place s order (place_in t i)).reference (subst (λ (v : AuthoritySet). member v a ≡ true) (w.voted i h) e)),
  )

  abbrev bs : List Block
  bs = blocks_of s

  one_same : (k : ℕ) (b : Block) (v : AuthoritySet) → block_at_place s order k ≡ b → v ≡ readings.voters_in reading bs l b.reference → certifier_bytes_at s
      order l k v ≡ certifier_bytes (certifier_of reading bs l b)
  unfolding certifier_bytes_at certifier_bytes certifier_of voters_at voter_at number_of_voters
  one_same k b v e f =
      ap₂ (λ (d : Block) (u : AuthoritySet). reference_bytes d.reference ++
      (le_bytes 1 (length (members u)) ++ flatten (map (λ a. voter_bytes (voter_of bs l d a)) (members u)))) e f
      ∙ sym (rw (
        length-map (members (readings.voters_in reading bs l b.reference)) (voter_of bs l b),
        map_twice voter_bytes (voter_of bs l b)
            (members (readings.voters_in reading bs l b.reference)),
      ))

  all_same : certifiers_bytes s order l t (length ps) ≡ flatten (map certifier_bytes (map (certifier_of reading bs l) (map (block_at s) ps)))
  unfolding certifiers_bytes
  all_same =
      ap flatten
      (map_count (λ p. certifier_bytes (certifier_of reading bs l (block_at s p))) (λ i. certifier_bytes_at s order l (place_in t i) (voters_in t i)) ps 0
      (λ i h. rw (zero-add i) (one_same (place_in t i) (block_at s (get_or ps i 0)) (voters_in t i) (w.blocks i h)
      (w.voted i h ∙ ap (λ (b : Block). readings.voters_in reading bs l b.reference) (w.blocks i h))))
      ∙ sym (map_twice (λ b. certifier_bytes (certifier_of reading bs l b)) (block_at s) ps) ∙ sym
      (map_twice certifier_bytes (certifier_of reading bs l) (map (block_at s) ps)))

  pub listed_same : listed_bytes s order l (reading_byte reading) t (length ps) ≡ slip_bytes (slip_at reading s l ps)
  unfolding listed_bytes head_bytes slip_bytes slip_at
  listed_same =
      let n : length (map (certifier_of reading bs l) (map (block_at s) ps)) ≡ length ps = length-map (map (block_at s) ps) (certifier_of reading bs l) ∙
      length-map ps (block_at s) in
      ap (λ (x : Bytes). reading_byte reading ∷ x)
      (append_assoc (locator_bytes l) (le_bytes 2 (length ps)) (certifiers_bytes s order l t (length ps))
      ∙ ap₂ (λ (m : ℕ) (x : Bytes). locator_bytes l ++ (le_bytes 2 m ++ x)) (sym n) all_same)
