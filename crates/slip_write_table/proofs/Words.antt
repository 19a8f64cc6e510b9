-- The table of certifying blocks, word by word, and the blocks at its places. Assumes nothing.
use mathlib.Core.Path.{◌≡◌, ap, ◌∙◌, subst}
use mathlib.Core.Bool.{true}
use mathlib.Core.List.{List}
use Prim.Native.Nat.{ℕ, ◌+◌, ◌*◌, ◌≤◌, ◌<◌}
use native.Mathlib.Omega.{arith}
use native.Mathlib.Decide.{ℕ_discrete}
use lib.ListN.{length, get_or, set, length-set}
use lib.Seq.{get_or-set_same, get_or-set_other}
use Rattle.base.specs.Lists.{◌∈◌}
use Rattle.base.specs.Le.{Bytes}
use Rattle.base.proofs.Members.{map_in, in_any}
use Rattle.base.proofs.Places.{member_place}
use Rattle.committee_set.specs.AuthoritySet.{AuthoritySet}
use Rattle.record_spec.specs.Reference.{TransactionLocator, same_reference}
use Rattle.record_spec.specs.Block.{Block}
use Rattle.record_spec.proofs.References.{same_reference_lem}
use Rattle.store_spec.specs.Store.{records_of}
use Rattle.store_spec.specs.Accept.{is_stored}
use Rattle.store_spec.specs.Entry.{block_at, is_entry}
use Rattle.store_spec.proofs.Stored.{one_reference}
use Rattle.final_readings_spec.specs.Readings as readings
use Rattle.final_spec.specs.Finality.{blocks_of}
use Rattle.final_block_votes.specs.Walk.{SortedStore, block_at_place}
use Rattle.final_block_votes.proofs.Sorting.{sorted_well, place_entry, place_stored}
use Rattle.slip_write_table.specs.Table.{place_in, voters_in, noted, Listed}

module _ (t : List ℕ) (i k : ℕ) (v : AuthoritySet) where
  abbrev one : List ℕ
  one = set t (3 * i) k

  abbrev two : List ℕ
  two = set one (3 * i + 1) v.low

  -- the words of another block
  noted_word : (x : ℕ) → (x ≡ 3 * i → ⊥) → (x ≡ 3 * i + 1 → ⊥) → (x ≡ 3 * i + 2 → ⊥) → get_or (noted t i k v) x 0 ≡ get_or t x 0
  unfolding noted
  noted_word x p q r =
      get_or-set_other two (3 * i + 2) x v.high 0 r ∙ get_or-set_other one (3 * i + 1) x v.low 0 q ∙ get_or-set_other t (3 * i) x k 0 p

  module _ (h : 3 * i + 3 ≤ length t) where
    noted_place : place_in (noted t i k v) i ≡ k
    unfolding noted place_in
    noted_place =
        get_or-set_other two (3 * i + 2) (3 * i) v.high 0 (λ (e : 3 * i ≡ 3 * i + 2). omega arith)
        ∙ get_or-set_other one (3 * i + 1) (3 * i) v.low 0 (λ (e : 3 * i ≡ 3 * i + 1). omega arith)
        ∙ get_or-set_same t (3 * i) k 0 (omega arith)

    noted_voters : voters_in (noted t i k v) i ≡ v
    unfolding noted voters_in
    noted_voters =
        let n : length one ≡ length t = length-set t (3 * i) k in
        let m : length two ≡ length t = length-set one (3 * i + 1) v.low ∙ n in
        let e =
        get_or-set_other two (3 * i + 2) (3 * i + 1) v.high 0 (λ (z : 3 * i + 1 ≡ 3 * i + 2). omega arith) ∙ get_or-set_same one (3 * i + 1) v.low 0
        (omega (arith, n)) in
        let f = get_or-set_same two (3 * i + 2) v.high 0 (omega (arith, m)) in
        λ x. record { low = e x; high = f x }

  module _ (j : ℕ) (ne : j ≡ i → ⊥) where
    noted_place_other : place_in (noted t i k v) j ≡ place_in t j
    unfolding place_in
    noted_place_other =
        noted_word (3 * j) (λ (e : 3 * j ≡ 3 * i). ne (omega arith)) (λ (e : 3 * j ≡ 3 * i + 1). omega arith) (λ (e : 3 * j ≡ 3 * i + 2). omega arith)

    noted_voters_other : voters_in (noted t i k v) j ≡ voters_in t j
    unfolding voters_in
    noted_voters_other =
        let e =
        noted_word (3 * j + 1) (λ (z : 3 * j + 1 ≡ 3 * i). omega arith) (λ (z : 3 * j + 1 ≡ 3 * i + 1). ne (omega arith))
        (λ (z : 3 * j + 1 ≡ 3 * i + 2). omega arith) in
        let f =
        noted_word (3 * j + 2) (λ (z : 3 * j + 2 ≡ 3 * i). omega arith) (λ (z : 3 * j + 2 ≡ 3 * i + 1). omega arith)
        (λ (z : 3 * j + 2 ≡ 3 * i + 2). ne (omega arith)) in
        λ x. record { low = e x; high = f x }

-- ---- the blocks at positions of the order

module _ (s : Bytes) (order : List ℕ) (o : SortedStore s order) (p : ℕ) (m : p ∈ order) where
  pub position_entry : is_entry s p ≡ true
  position_entry = let r = member_place 0 order m in subst (λ (x : ℕ). is_entry s x ≡ true) r.1.1 (place_entry s order o r.0 r.1.0)

  position_stored : block_at s p ∈ blocks_of s
  unfolding block_at_place
  position_stored = let r = member_place 0 order m in subst (λ (x : ℕ). block_at s x ∈ blocks_of s) r.1.1 (place_stored s order o r.0 r.1.0)

  pub position_found : is_stored (records_of s) (block_at s p).reference ≡ true
  unfolding is_stored blocks_of
  position_found =
      let r = map_in (λ x. x.block) (records_of s) position_stored in
      in_any (λ x. same_reference x.block.reference (block_at s p).reference) r.1 (same_reference_lem (ap (λ (x : Block). x.reference) r.2))

  -- a block is known by its reference
  pub position_same : (k : ℕ) → k < length order → (block_at_place s order k).reference ≡ (block_at s p).reference → block_at_place s order k ≡ block_at s p
  position_same k h e = one_reference (sorted_well s order o) (place_stored s order o k h) position_stored e

-- ---- one after the other

module _ (reading : readings.Reading) (s : Bytes) (order : List ℕ) (l : TransactionLocator) (positions : List ℕ) where
  pub listed_start : (t : List ℕ) → Listed reading s order l positions t 0
  listed_start t =
      record {
        places = λ i (h : i < 0). absurd (omega arith);
        blocks = λ i (h : i < 0). absurd (omega arith);
        voted = λ i (h : i < 0). absurd (omega arith);
      }

  pub listed_more : (t : List ℕ) (n : ℕ) → Listed reading s order l positions t n → 3 * n + 3 ≤ length t → (k : ℕ) → k < length order
      → block_at_place s order k ≡ block_at s (get_or positions n 0) → (v : AuthoritySet) → v ≡ readings.voters_in reading (blocks_of s) l
      (block_at_place s order k).reference → Listed reading s order l positions (noted t n k v) (n + 1)
  listed_more t n w room k h e v f =
      record {
        places = λ i q. places i q (ℕ_discrete i n);
        blocks = λ i q. blocks i q (ℕ_discrete i n);
        voted = λ i q. voted i q (ℕ_discrete i n);
      }
    where
      places : (i : ℕ) → i < n + 1 → Dec (i ≡ n) → place_in (noted t n k v) i < length order
      places i q (yes z) = rw (z, noted_place t n k v room) h
      places i q (no z) = rw (noted_place_other t n k v i z) (w.places i (omega arith))

      blocks : (i : ℕ) → i < n + 1 → Dec (i ≡ n) → block_at_place s order (place_in (noted t n k v) i) ≡ block_at s (get_or positions i 0)
      blocks i q (yes z) = rw (z, noted_place t n k v room) e
      blocks i q (no z) = rw (noted_place_other t n k v i z) (w.blocks i (omega arith))

      voted : (i : ℕ) → i < n + 1 → Dec (i ≡ n)
          → voters_in (noted t n k v) i ≡ readings.voters_in reading (blocks_of s) l (block_at_place s order (place_in (noted t n k v) i)).reference
      voted i q (yes z) = rw (z, noted_place t n k v room, noted_voters t n k v room) f
      voted i q (no z) = rw (noted_place_other t n k v i z, noted_voters_other t n k v i z) (w.voted i (omega arith))
