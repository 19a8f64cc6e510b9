-- Certifying blocks one after the other: their sizes and their bytes. Assumes nothing.
use mathlib.Core.Path.{◌≡◌, sym, ap, ◌∙◌}
use mathlib.Core.List.{List, [], ◌++◌, map, flatten}
use Prim.Native.Nat.{ℕ, ◌+◌, ◌-◌, ◌≤◌, ◌<◌}
use native.Mathlib.Omega.{arith}
use lib.ListN.{length, set, length-append}
use lib.Seq.{sets}
use Rattle.base.specs.Lists.{count_from, sum_of}
use Rattle.base.specs.Le.{Bytes, le_bytes}
use Rattle.base.proofs.Le.{AllBytes, length_le_bytes, sets_append}
use Rattle.base.proofs.Lists.{length_keep, length_count_from}
use Rattle.base.proofs.Members.{count_from_in}
use Rattle.committee_set.specs.AuthoritySet.{AuthoritySet, member, members, number_of_voters}
use Rattle.record_spec.specs.Reference.{TransactionLocator}
use Rattle.record_spec.specs.Record.{reference_bytes}
use Rattle.record_spec.proofs.Records.{one_byte, length_reference}
use Rattle.final_block_votes.specs.Walk.{SortedStore, block_at_place}
use Rattle.final_block_votes.proofs.Sorting.{place_stored}
use Rattle.slip_write_distances.specs.Near.{Distances}
use Rattle.slip_write_routes.specs.Reached.{voters_at, Reached, voters_size}
use Rattle.slip_write_routes.proofs.Listing.{count_next, count_end, lengths, voters_length}
use Rattle.final_spec.proofs.Fits.{block_fits}
use Rattle.slip_write_table.specs.Table.{place_in, voters_in}
use Rattle.slip_write_certifiers.specs.Ready.{Ready, certifier_bytes_at, certifiers_bytes, certifier_size, certifiers_size}

pub few_voters : (v : AuthoritySet) → number_of_voters v ≤ 128
unfolding number_of_voters members
few_voters v = omega (arith, length_keep (member v) (count_from 0 128), length_count_from 0 128)

-- ---- sizes

module _ (near t : List ℕ) (n : ℕ) where
  unfoldable pub size_on : ℕ → ℕ
  size_on i = sum_of (map (certifier_size near t) (count_from i (n - i)))

  pub size_first : size_on 0 ≡ certifiers_size near t n
  unfolding size_on certifiers_size
  size_first = let e : n - 0 ≡ n = omega arith in rw e

  pub size_next : (i : ℕ) → i < n → size_on i ≡ 49 + voters_size near (place_in t i) (voters_in t i) + size_on (i + 1)
  unfolding size_on sum_of certifier_size
  size_next i h = rw (count_next n i h)

  pub size_last : (i : ℕ) → n ≤ i → size_on i ≡ 0
  unfolding size_on sum_of
  size_last i h = rw (count_end n i h)

-- ---- bytes

module _ (s : Bytes) (order : List ℕ) (l : TransactionLocator) (t : List ℕ) (n : ℕ) where
  unfoldable pub bytes_on : ℕ → Bytes
  bytes_on i = flatten (map (λ j. certifier_bytes_at s order l (place_in t j) (voters_in t j)) (count_from i (n - i)))

  pub bytes_first : bytes_on 0 ≡ certifiers_bytes s order l t n
  unfolding bytes_on certifiers_bytes
  bytes_first = let e : n - 0 ≡ n = omega arith in rw e

  pub bytes_last : (i : ℕ) → n ≤ i → bytes_on i ≡ []
  unfolding bytes_on flatten
  bytes_last i h = rw (count_end n i h)

module _ (s : Bytes) (order : List ℕ) (l : TransactionLocator) (near steps : List ℕ) (o : SortedStore s order) (bytes : AllBytes s)
    (d : Distances s order l near steps (length order)) where
  module _ (k : ℕ) (h : k < length order) (v : AuthoritySet) (r : Reached near k v) where
    reference_length : length (reference_bytes (block_at_place s order k).reference) ≡ 48
    reference_length = length_reference (block_at_place s order k).reference
        (block_fits s bytes (block_at_place s order k) (place_stored s order o k h)).reference

    certifier_length : length (certifier_bytes_at s order l k v) ≡ 49 + voters_size near k v
    unfolding certifier_bytes_at Reached
    certifier_length =
        let w = voters_at s order l k v in
        let q = le_bytes 1 (number_of_voters v) in
        omega (
          arith,
          length-append (reference_bytes (block_at_place s order k).reference) (q ++ w),
          length-append q w,
          reference_length,
          length_le_bytes 1 (number_of_voters v),
          voters_length s order l near steps o d k h v r,
        )

    -- reference, number of voters, voters
    pub certifier_written : (out : List ℕ) (at : ℕ)
        → sets (set (sets out at (reference_bytes (block_at_place s order k).reference)) (at + 48) (number_of_voters v)) (at + 49) (voters_at s order l k v)
        ≡ sets
        out at (certifier_bytes_at s order l k v)
    unfolding certifier_bytes_at
    certifier_written out at =
        let r = reference_bytes (block_at_place s order k).reference in
        let w = voters_at s order l k v in
        let e : at + 48 + 1 ≡ at + 49 = omega arith in
        sym (
        sets_append r (le_bytes 1 (number_of_voters v) ++ w) out at
        ∙ ap (λ (x : ℕ). sets (sets out at r) (at + x) (le_bytes 1 (number_of_voters v) ++ w)) reference_length
        ∙ sets_append (le_bytes 1 (number_of_voters v)) w (sets out at r) (at + 48)
        ∙ ap (λ (x : ℕ). sets (sets (sets out at r) (at + 48) (le_bytes 1 (number_of_voters v))) x w)
        (ap (λ (x : ℕ). at + 48 + x) (length_le_bytes 1 (number_of_voters v)) ∙ e)
        ∙ ap (λ (x : List ℕ). sets (sets (sets out at r) (at + 48) x) (at + 49) w) (one_byte (number_of_voters v) (omega (arith, few_voters v)))
        )

  module _ (t : List ℕ) (n : ℕ) (r : Ready order near t n) where
    pub bytes_next : (i : ℕ) → i < n → (out : List ℕ) (to : ℕ)
        → sets out to (bytes_on s order l t n i) ≡ sets (sets out to (certifier_bytes_at s order l (place_in t i) (voters_in t i)))
        (to + (49 + voters_size near (place_in t i) (voters_in t i))) (bytes_on s order l t n (i + 1))
    unfolding bytes_on flatten Ready
    bytes_next i h out to =
        rw (
          count_next n i h,
          sets_append (certifier_bytes_at s order l (place_in t i) (voters_in t i))
              (flatten (map (λ j. certifier_bytes_at s order l (place_in t j) (voters_in t j)) (count_from (i + 1) (n - (i + 1))))) out to,
          certifier_length (place_in t i) (r i h).0 (voters_in t i) (r i h).1,
        )

    pub certifiers_length : length (certifiers_bytes s order l t n) ≡ certifiers_size near t n
    unfolding certifiers_bytes certifiers_size certifier_size Ready
    certifiers_length =
        lengths (λ i. certifier_bytes_at s order l (place_in t i) (voters_in t i)) (λ i. 49 + voters_size near (place_in t i) (voters_in t i)) (count_from 0 n)
        (λ i m. let q = count_from_in 0 n m in let h : i < n = omega (arith, q.1) in certifier_length (place_in t i) (r i h).0 (voters_in t i) (r i h).1)
