-- Voters one after the other: their bytes and their sizes. Assumes nothing.
use mathlib.Core.Path.{◌≡◌, refl, sym, ap, ap₂, ◌∙◌}
use mathlib.Core.Bool.{true, false}
use mathlib.Core.List.{List, [], ◌∷◌, ◌++◌, map, flatten}
use Prim.Native.Nat.{ℕ, suc, ◌+◌, ◌-◌, ◌*◌, ◌≤◌, ◌<◌}
use native.Mathlib.Omega.{arith}
use lib.ListN.{length, get_or, length-append}
use lib.Seq.{sets}
use Rattle.base.specs.Lists.{keep, count_from, sum_of, ◌∈◌, here, there}
use Rattle.base.specs.Le.{Bytes, le_bytes}
use Rattle.base.proofs.Le.{length_le_bytes, sets_append}
use Rattle.committee.specs.Committee.{AuthorityIndex}
use Rattle.committee_set.specs.AuthoritySet.{AuthoritySet, member, members}
use Rattle.record_spec.specs.Reference.{TransactionLocator}
use Rattle.final_spec.specs.Finality.{blocks_of}
use Rattle.final_block_votes.specs.Walk.{SortedStore, block_at_place}
use Rattle.slip_spec.specs.Slip.{voter_bytes}
use Rattle.slip_spec.specs.Paths.{path_to}
use Rattle.slip_spec.specs.Reading.{votes_as}
use Rattle.slip_spec.specs.Writing.{voter_of}
use Rattle.slip_spec.proofs.Distances.{length_steps}
use Rattle.slip_spec.proofs.Naming.{listed_member}
use Rattle.slip_write_distances.specs.Near.{Distances}
use Rattle.slip_write_routes.specs.Reached.{voter_at, voters_at, voter_size, voters_size}
use Rattle.slip_write_routes.proofs.Steps.{path_starts}

-- ---- the members from an author on

abbrev pub from : AuthoritySet → ℕ → List AuthorityIndex
from v a = keep (member v) (count_from a (128 - a))

-- the numbers from one on up to another
pub count_next : (n a : ℕ) → a < n → count_from a (n - a) ≡ a ∷ count_from (a + 1) (n - (a + 1))
unfolding count_from
count_next n a h = let e : n - a ≡ suc (n - (a + 1)) = omega arith in rw e

pub count_end : (n a : ℕ) → n ≤ a → count_from a (n - a) ≡ []
unfolding count_from
count_end n a h = let e : n - a ≡ 0 = omega arith in rw e

from_yes : (v : AuthoritySet) (a : ℕ) → a < 128 → member v a ≡ true → from v a ≡ a ∷ from v (a + 1)
unfolding keep
from_yes v a h e = rw (count_next 128 a h, e)

from_no : (v : AuthoritySet) (a : ℕ) → a < 128 → member v a ≡ false → from v a ≡ from v (a + 1)
unfolding keep
from_no v a h e = rw (count_next 128 a h, e)

from_end : (v : AuthoritySet) (a : ℕ) → 128 ≤ a → from v a ≡ []
unfolding keep
from_end v a h = rw (count_end 128 a h)

-- ---- their sizes

module _ (near : List ℕ) (k : ℕ) (v : AuthoritySet) where
  unfoldable pub size_from : ℕ → ℕ
  size_from a = sum_of (map (voter_size near k) (from v a))

  pub size_all : size_from 0 ≡ voters_size near k v
  unfolding size_from voters_size members
  size_all = refl

  pub size_yes : (a : ℕ) → a < 128 → member v a ≡ true → size_from a ≡ 9 + get_or near (128 * k + a) 0 + size_from (a + 1)
  unfolding size_from sum_of voter_size
  size_yes a h e = rw (from_yes v a h e)

  pub size_no : (a : ℕ) → a < 128 → member v a ≡ false → size_from a ≡ size_from (a + 1)
  unfolding size_from
  size_no a h e = rw (from_no v a h e)

  pub size_end : (a : ℕ) → 128 ≤ a → size_from a ≡ 0
  unfolding size_from sum_of
  size_end a h = rw (from_end v a h)

-- ---- their bytes

unfoldable pub bytes_from : Bytes → List ℕ → TransactionLocator → ℕ → AuthoritySet → ℕ → Bytes
bytes_from s order l k v a = flatten (map (voter_at s order l k) (from v a))

module _ (s : Bytes) (order : List ℕ) (l : TransactionLocator) (k : ℕ) (v : AuthoritySet) where
  pub bytes_all : bytes_from s order l k v 0 ≡ voters_at s order l k v
  unfolding bytes_from voters_at members
  bytes_all = refl

  pub bytes_no : (a : ℕ) → a < 128 → member v a ≡ false → bytes_from s order l k v a ≡ bytes_from s order l k v (a + 1)
  unfolding bytes_from
  bytes_no a w e = rw (from_no v a w e)

  pub bytes_end : (a : ℕ) → 128 ≤ a → bytes_from s order l k v a ≡ []
  unfolding bytes_from flatten
  bytes_end a w = rw (from_end v a w)

-- the bytes of a list, by the bytes of each
pub lengths : {A : Type 0} (f : A → Bytes) (g : A → ℕ) (xs : List A) → ((x : A) → x ∈ xs → length (f x) ≡ g x) → length (flatten (map f xs)) ≡ sum_of (map g xs)
unfolding flatten sum_of
lengths f g [] h = refl
lengths f g (x ∷ xs) h = length-append (f x) (flatten (map f xs)) ∙ ap₂ (λ (m n : ℕ). m + n) (h x here) (lengths f g xs (λ y m. h y (there m)))

module _ (s : Bytes) (order : List ℕ) (l : TransactionLocator) (near steps : List ℕ) (o : SortedStore s order)
    (d : Distances s order l near steps (length order))
    (k : ℕ) (h : k < length order) where
  path_length : (a : ℕ) → a < 128 → 0 < get_or near (128 * k + a) 0 → length (path_to (votes_as l a) (blocks_of s) (block_at_place s order k)) ≡ get_or near
      (128 * k + a) 0 - 1
  path_length a w m =
      let n : ℕ = get_or near (128 * k + a) 0 - 1 in
      let e : get_or near (128 * k + a) 0 ≡ n + 1 = omega arith in
      ap length (path_starts s order l near steps o d k h a w n e) ∙ length_steps (votes_as l a) (blocks_of s) n (block_at_place s order k)

  voter_length : (a : ℕ) → a < 128 → 0 < get_or near (128 * k + a) 0 → length (voter_at s order l k a) ≡ 9 + get_or near (128 * k + a) 0
  unfolding voter_at voter_bytes voter_of
  voter_length a w m =
      let p : List ℕ = path_to (votes_as l a) (blocks_of s) (block_at_place s order k) in
      omega (
        arith,
        length-append (le_bytes 8 a) (le_bytes 2 (length p) ++ p),
        length-append (le_bytes 2 (length p)) p,
        length_le_bytes 8 a,
        length_le_bytes 2 (length p),
        path_length a w m,
      )

  -- author, length of the path, path
  pub voter_written : (a : ℕ) → a < 128 → 0 < get_or near (128 * k + a) 0 → (out : List ℕ) (at : ℕ)
      → sets (sets (sets out at (le_bytes 8 a)) (at + 8) (le_bytes 2 (get_or near (128 * k + a) 0 - 1))) (at + 10)
      (path_to (votes_as l a) (blocks_of s) (block_at_place s order k))
      ≡ sets out at (voter_at s order l k a)
  unfolding voter_at voter_bytes voter_of
  voter_written a w m out at =
      let p : List ℕ = path_to (votes_as l a) (blocks_of s) (block_at_place s order k) in
      let q : List ℕ = le_bytes 2 (length p) in
      let e : at + 8 + 2 ≡ at + 10 = omega arith in
      sym (rw (
        sets_append (le_bytes 8 a) (q ++ p) out at,
        length_le_bytes 8 a,
        sets_append q p (sets out at (le_bytes 8 a)) (at + 8),
        length_le_bytes 2 (length p),
        e,
        path_length a w m,
      ))

  module _ (v : AuthoritySet) where
    pub bytes_yes : (a : ℕ) → a < 128 → member v a ≡ true → 0 < get_or near (128 * k + a) 0 → (out : List ℕ) (to : ℕ)
        → sets out to (bytes_from s order l k v a) ≡ sets (sets out to (voter_at s order l k a)) (to + (9 + get_or near (128 * k + a) 0))
        (bytes_from s order l k v (a + 1))
    unfolding bytes_from flatten
    bytes_yes a w e m out to =
        rw (from_yes v a w e, sets_append (voter_at s order l k a) (flatten (map (voter_at s order l k) (from v (a + 1)))) out to, voter_length a w m)

    pub voters_length : ((a : ℕ) → a < 128 → member v a ≡ true → 0 < get_or near (128 * k + a) 0) → length (voters_at s order l k v) ≡ voters_size near k v
    unfolding voters_at voters_size voter_size
    voters_length r = lengths (voter_at s order l k) (λ a. 9 + get_or near (128 * k + a) 0) (members v)
        (λ a m. let q = listed_member v a m in voter_length a q.0 (r a q.0 q.1))
