-- Who speaks in the ancestry of the blocks at the places of a set: the same as of the includes one by one. Assumes nothing.
use mathlib.Core.Path.{◌≡◌, refl, sym, ap, subst, ◌∙◌}
use mathlib.Core.Bool.{Bool, true, false}
use mathlib.Core.List.{List, map}
use Prim.Native.Nat.{ℕ, zero, suc, ◌+◌, ◌-◌, ◌*◌, ◌/◌, ◌%◌, ◌^◌, ◌≤◌, ◌<◌}
use native.Mathlib.Nat.{zero-div, div-eq_of_lt, lt_of_lt_of_le}
use native.Mathlib.Omega.{arith}
use native.Mathlib.Decide.{ℕ_discrete, dec_lt}
use lib.Dec.{eqb}
use lib.Pow.{pow_mono, shr-shr}
use lib.ListN.{length, get_or}
use borrow.Author.Tests.{eqb-true}
use Rattle.base.specs.Lists.{pick, ◌∈◌}
use Rattle.base.specs.Le.{Bytes}
use Rattle.base.proofs.Members.{in_map, map_in}
use Rattle.base.proofs.Places.{in_place, member_place}
use Rattle.committee_set.specs.AuthoritySet.{AuthoritySet, nobody, bit, united}
use Rattle.committee_set.proofs.Words.{united_nobody}
use Rattle.record_spec.specs.Reference.{BlockReference, TransactionLocator}
use Rattle.record_spec.specs.Record.{no_reference}
use Rattle.final_spec.specs.Voters.{Speech, unions, spoken}
use Rattle.final_spec.specs.Finality.{blocks_of}
use Rattle.final_block_votes.specs.Walk.{SortedStore, block_at_place}
use Rattle.final_block_votes.proofs.Sorting.{include_lower}
use Rattle.final_voters.specs.Walk.{spoken_at}
use Rattle.list_includes_spec.specs.Places.{IsPlace, set_at}
use Rattle.list_include_sets.specs.Sets.{has, Row, SameBefore, Included, gathered_to, taken}
use Rattle.list_include_sets.proofs.Within.{Within, within_nobody, within_left, within_right, within_trans, within_both, within_same, in_unions}
use Rattle.list_include_sets.proofs.Within.{unions_in}
use Rattle.list_include_sets.proofs.Noting.{has_same}

-- ---- bit by bit

module _ (sets memo : List ℕ) (k i : ℕ) where
  has_bit : (b : ℕ) → b < 64 → has sets k (64 * i + b) ≡ bit (get_or sets (17 * k + i) 0) b
  unfolding has
  has_bit b h =
      let e : (64 * i + b) / 64 ≡ i = omega arith in
      let f : (64 * i + b) % 64 ≡ b = omega arith in
      rw (e, f)

  pub gathered_none : gathered_to sets memo k 0 ≡ nobody
  unfolding gathered_to
  gathered_none = refl

  pub gathered_more : (b w : ℕ) (v : AuthoritySet) → b < 64 → w ≡ get_or sets (17 * k + i) 0 / 2 ^ b → v ≡ gathered_to sets memo k (64 * i + b)
      → united v (pick (eqb (w % 2) 1) (set_at memo (64 * i + b)) nobody) ≡ gathered_to sets memo k (64 * i + (b + 1))
  unfolding gathered_to bit
  gathered_more b w v h e f =
      let n : 64 * i + (b + 1) ≡ suc (64 * i + b) = omega arith in
      rw (n, has_bit b h, e, f)

  -- past a word that is used up nothing is gathered
  spent : (w b d : ℕ) → w / 2 ^ b ≡ 0 → bit w (b + d) ≡ false
  unfolding bit
  spent w b d e = rw (← shr-shr w b d, e, zero-div (2 ^ d))

  rest : (b d : ℕ) → b + d ≤ 64 → get_or sets (17 * k + i) 0 / 2 ^ b ≡ 0 → gathered_to sets memo k (64 * i + (b + d)) ≡ gathered_to sets memo k (64 * i + b)
  unfolding gathered_to
  rest b zero h e = let n : 64 * i + (b + 0) ≡ 64 * i + b = omega arith in rw n
  rest b (suc d) h e =
      let n : 64 * i + (b + suc d) ≡ suc (64 * i + (b + d)) = omega arith in
      rw (n, has_bit (b + d) (omega arith), spent (get_or sets (17 * k + i) 0) b d e, united_nobody (gathered_to sets memo k (64 * i + (b + d))))
      (rest b d (omega arith) e)

  pub gathered_word : (b : ℕ) → b ≤ 64 → get_or sets (17 * k + i) 0 / 2 ^ b ≡ 0 → gathered_to sets memo k (64 * i + b) ≡ gathered_to sets memo k (64 * i + 64)
  gathered_word b h e = go (64 - b) (omega arith)
    where
      go : (d : ℕ) → b + d ≡ 64 → gathered_to sets memo k (64 * i + b) ≡ gathered_to sets memo k (64 * i + 64)
      go d q = sym (rest b d (omega arith) e) ∙ ap (λ (x : ℕ). gathered_to sets memo k (64 * i + x)) q

-- a word that is not used up has bits left
pub bits_left : (w b : ℕ) → w < 18446744073709551616 → (w / 2 ^ b ≡ 0 → ⊥) → b < 64
bits_left w b h n = go (dec_lt b 64)
  where
    go : Dec (b < 64) → b < 64
    go (yes l) = l
    go (no l) = absurd (n (div-eq_of_lt (lt_of_lt_of_le h (pow_mono {i = 64} {j = b} (omega arith)))))

pub halved : (w b : ℕ) → w / 2 ^ b / 2 ≡ w / 2 ^ (b + 1)
halved w b = shr-shr w b 1

-- ---- all together

module _ (sets memo : List ℕ) (k : ℕ) where
  in_gathered : (n p : ℕ) → p < n → has sets k p ≡ true → Within (set_at memo p) (gathered_to sets memo k n)
  unfolding gathered_to
  in_gathered zero p h e = absurd (omega arith)
  in_gathered (suc n) p h e = go (ℕ_discrete p n) (λ l. in_gathered n p l e)
    where
      go : Dec (p ≡ n) → (p < n → Within (set_at memo p) (gathered_to sets memo k n)) → Within (set_at memo p)
          (united (gathered_to sets memo k n) (pick (has sets k n) (set_at memo n) nobody))
      go (yes q) f = rw (← q, e) (within_right (gathered_to sets memo k p) (set_at memo p))
      go (no q) f = within_trans (set_at memo p) (gathered_to sets memo k n) _ (f (omega arith))
          (within_left (gathered_to sets memo k n) (pick (has sets k n) (set_at memo n) nobody))

  gathered_in : (n : ℕ) (w : AuthoritySet) → ((p : ℕ) → p < n → has sets k p ≡ true → Within (set_at memo p) w) → Within (gathered_to sets memo k n) w
  unfolding gathered_to
  gathered_in zero w f = within_nobody w
  gathered_in (suc n) w f = within_both (gathered_to sets memo k n) _ w (gathered_in n w (λ p h. f p (omega arith))) (one (has sets k n) refl)
    where
      one : (t : Bool) → has sets k n ≡ t → Within (pick t (set_at memo n) nobody) w
      one true e = f n (omega arith) e
      one false e = within_nobody w

-- sets of places with the same members have the same union, whatever is taken of each
module _ (s : Bytes) (order sets : List ℕ) (f : BlockReference → AuthoritySet) where
  half_same : (j k : ℕ) → Row s order sets j (length (block_at_place s order j).includes) → Row s order sets k (length (block_at_place s order k).includes)
      → ((p : ℕ) → p < 1024 → has sets j p ≡ true → has sets k p ≡ true)
      → Within (unions (map f (block_at_place s order j).includes)) (unions (map f (block_at_place s order k).includes))
  unfolding IsPlace
  half_same j k v w g = unions_in _ _ (λ x m. each x (map_in f (block_at_place s order j).includes m))
    where
      each : (x : AuthoritySet) → ((r : BlockReference) × (r ∈ (block_at_place s order j).includes) × (f r ≡ x)) → Within x
          (unions (map f (block_at_place s order k).includes))
      each x y =
          let a = member_place no_reference (block_at_place s order j).includes y.1 in
          let b = v.whole a.0 a.1.0 in
          let d = w.sound b.0 b.1.0 (g b.0 b.1.0 b.1.1.0) in
          let e : get_or (block_at_place s order k).includes d.0 no_reference ≡ y.0 = sym d.1.1.1 ∙ b.1.1.1.1 ∙ a.1.1 in
          let q : f (get_or (block_at_place s order k).includes d.0 no_reference) ≡ x = ap f e ∙ y.2 in
          subst (λ (u : AuthoritySet). Within u (unions (map f (block_at_place s order k).includes))) q
          (in_unions _ (in_map f (in_place no_reference (block_at_place s order k).includes d.0 d.1.0)))

  same_unions : (j k : ℕ) → Row s order sets j (length (block_at_place s order j).includes) → Row s order sets k (length (block_at_place s order k).includes)
      → ((i : ℕ) → i < 16 → get_or sets (17 * k + i) 0 ≡ get_or sets (17 * j + i) 0)
      → unions (map f (block_at_place s order j).includes) ≡ unions (map f (block_at_place s order k).includes)
  same_unions j k v w g =
      within_same _ _
      (half_same j k v w (λ p l h. has_same sets sets k j p l g ∙ h))
      (half_same k j w v (λ p l h. sym (has_same sets sets k j p l g) ∙ h))

-- ---- below a block

module _ (s : Bytes) (order : List ℕ) (o : SortedStore s order) (own : Speech) (l : TransactionLocator) (memo : List ℕ) (k : ℕ) (h : k < length order)
    (voted : (j : ℕ) → j < k → set_at memo j ≡ spoken_at own s order l j) (sets : List ℕ) where
  one_place : (n p : ℕ) → n < length (block_at_place s order k).includes → IsPlace s order p (get_or (block_at_place s order k).includes n no_reference)
      → set_at memo p ≡ spoken own (blocks_of s) l (get_or (block_at_place s order k).includes n no_reference)
  unfolding IsPlace spoken_at
  one_place n p m x = voted p (include_lower s order o k h n m p x.0 x.1) ∙ ap (spoken own (blocks_of s) l) x.1

  pub gathered_row : Row s order sets k (length (block_at_place s order k).includes) → gathered_to sets memo k 1024 ≡ unions
      (map (spoken own (blocks_of s) l) (block_at_place s order k).includes)
  gathered_row w = within_same _ _ (gathered_in sets memo k 1024 _ up)
      (unions_in _ _ (λ x m. down x (map_in (spoken own (blocks_of s) l) (block_at_place s order k).includes m)))
    where
      up : (p : ℕ) → p < 1024 → has sets k p ≡ true → Within (set_at memo p) (unions (map (spoken own (blocks_of s) l) (block_at_place s order k).includes))
      up p m e =
          let y = w.sound p m e in
          rw (one_place y.0 p y.1.0 y.1.1)
          (in_unions _ (in_map (spoken own (blocks_of s) l) (in_place no_reference (block_at_place s order k).includes y.0 y.1.0)))

      down : (x : AuthoritySet) → ((r : BlockReference) × (r ∈ (block_at_place s order k).includes) × (spoken own (blocks_of s) l r ≡ x)) → Within x
          (gathered_to sets memo k 1024)
      down x y =
          let a = member_place no_reference (block_at_place s order k).includes y.1 in
          let b = w.whole a.0 a.1.0 in
          let q : set_at memo b.0 ≡ x = one_place a.0 b.0 a.1.0 b.1.1.1 ∙ ap (spoken own (blocks_of s) l) a.1.1 ∙ y.2 in
          subst (λ (u : AuthoritySet). Within u (gathered_to sets memo k 1024)) q (in_gathered sets memo k 1024 b.0 b.1.0 b.1.1.0)

-- ---- along a walk

-- who speaks below the block before place k, if there is one
abbrev pub SaidBefore : Speech → Bytes → List ℕ → TransactionLocator → ℕ → AuthoritySet → Type 0
SaidBefore own s order l k v = (j : ℕ) → j + 1 ≡ k → v ≡ unions (map (spoken own (blocks_of s) l) (block_at_place s order j).includes)

pub said_next : (own : Speech) (s : Bytes) (order : List ℕ) (l : TransactionLocator) (k : ℕ) (v : AuthoritySet)
    → v ≡ unions (map (spoken own (blocks_of s) l) (block_at_place s order k).includes) → SaidBefore own s order l (k + 1) v
said_next own s order l k v e j q = let i : j ≡ k = omega arith in rw i e

-- who speaks below the block at place k, where it is known of the block before and of all blocks before
pub below_right : (s : Bytes) (order : List ℕ) → SortedStore s order → (own : Speech) (l : TransactionLocator) (memo sets : List ℕ) → Included s order sets
    (length order) → (k : ℕ) → k < length order
    → ((j : ℕ) → j < k → set_at memo j ≡ spoken_at own s order l j) → (last : AuthoritySet) → SaidBefore own s order l k last
    → taken sets memo k last ≡ unions (map (spoken own (blocks_of s) l) (block_at_place s order k).includes)
unfolding taken SameBefore
below_right s order o own l memo sets w k h voted last before = go (eqb (get_or sets (17 * k + 16) 0) 1) refl
  where
    go : (t : Bool) → eqb (get_or sets (17 * k + 16) 0) 1 ≡ t → pick t last (gathered_to sets memo k 1024) ≡ unions
        (map (spoken own (blocks_of s) l) (block_at_place s order k).includes)
    go true e =
        let x = w.same k h (eqb-true (get_or sets (17 * k + 16) 0) 1 e) in
        before x.0 x.1.0 ∙ same_unions s order sets (spoken own (blocks_of s) l) x.0 k (w.rows x.0 (omega (arith, x.1.0))) (w.rows k h)
        x.1.1
    go false e = gathered_row s order o own l memo k h voted sets (w.rows k h)

-- where nobody speaks at the places before, nobody does below
pub quiet_below : (s : Bytes) (order : List ℕ) → SortedStore s order → (own : Speech) (l : TransactionLocator) (sets : List ℕ) → Included s order sets
    (length order) → (k : ℕ) → k < length order
    → ((j : ℕ) → j < k → spoken_at own s order l j ≡ nobody) → nobody ≡ unions (map (spoken own (blocks_of s) l) (block_at_place s order k).includes)
unfolding IsPlace spoken_at
quiet_below s order o own l sets w k h quiet = within_same _ _ (within_nobody _)
    (unions_in _ _ (λ x m. each x (map_in (spoken own (blocks_of s) l) (block_at_place s order k).includes m)))
  where
    each : (x : AuthoritySet) → ((r : BlockReference) × (r ∈ (block_at_place s order k).includes) × (spoken own (blocks_of s) l r ≡ x)) → Within x nobody
    each x y =
        let a = member_place no_reference (block_at_place s order k).includes y.1 in
        let b = (w.rows k h).whole a.0 a.1.0 in
        let q : nobody ≡ x = sym (quiet b.0 (include_lower s order o k h a.0 a.1.0 b.0 b.1.1.1.0 b.1.1.1.1)) ∙ ap
        (spoken own (blocks_of s) l) (b.1.1.1.1 ∙ a.1.1) ∙ y.2 in
        subst (λ (u : AuthoritySet). Within u nobody) q (within_nobody nobody)
