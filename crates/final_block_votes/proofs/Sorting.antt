-- The blocks of a store in order, by their places in ascending reference order. Assumes nothing.
use mathlib.Core.Path.{◌≡◌, refl, sym, ap, ◌∙◌}
use mathlib.Core.Logic.{◌⊎◌, inl, inr}
use mathlib.Core.Bool.{true, false, not, ◌&&◌}
use mathlib.Core.List.{List, [], ◌∷◌}
use mathlib.Core.Option.{Option, none, some}
use Prim.Native.Nat.{ℕ, ◌<◌, ◌≤◌}
use native.Mathlib.Omega.{arith}
use native.Mathlib.Decide.{dec_lt, ℕ_discrete}
use lib.Dec.{ltb, leb, eqb}
use lib.ListN.{length, get_or}
use borrow.Author.Tests.{leb-false, ltb-true, eqb-true}
use Rattle.base.specs.Lists.{is_none, ◌∈◌, here, there, before}
use Rattle.base.specs.Le.{Bytes}
use Rattle.base.specs.Checks.{◌⇒◌, passes}
use Rattle.base.proofs.Tests.{and_left, and_right, or_cases, not_both}
use Rattle.base.proofs.Lists.{every_in}
use Rattle.base.proofs.Members.{in_empty, in_left, in_right, in_flatten, in_map, map_in, in_any}
use Rattle.base.proofs.Checks.{passes_none}
use Rattle.base.proofs.Places.{in_place}
use Rattle.committee.specs.Committee.{Committee}
use Rattle.committee_set.specs.AuthoritySet.{nobody, inserted}
use Rattle.record_spec.specs.Reference.{BlockReference, TransactionLocator, reference_key, same_reference, reference_before}
use Rattle.record_spec.specs.Block.{Block, author, round}
use Rattle.record_spec.specs.Record.{no_reference}
use Rattle.record_spec.proofs.References.{same_reference_lem}
use Rattle.record_spec.specs.Verify.{head_checks, include_checks, body_checks}
use Rattle.store_spec.specs.Layout.{Record, Entry, entries, position_of, lookup}
use Rattle.store_spec.specs.Store.{records_of}
use Rattle.store_spec.specs.Accept.{is_stored, block_checks, all_accepted}
use Rattle.store_spec.specs.Entry.{block_at, is_entry}
use Rattle.store_spec.proofs.Stored.{WellStored, include_stored}
use Rattle.store_spec.proofs.Accepted.{blocks}
use Rattle.store_spec.proofs.Store.{in_order_lem, entries_within}
use Rattle.store_spec.proofs.Loops.{EntryAt, entry_at, block_of_entry}
use Rattle.store_spec.proofs.Lookups.{lookup_in, lookup_stored}
use Rattle.store_spec.proofs.Search.{reference_in, order_entry, order_rises}
use Rattle.final_spec.specs.Voters.{votes_for, own_vote}
use Rattle.final_spec.specs.Finality.{blocks_of}
use Rattle.final_spec.specs.Claims.{Stored}
use Rattle.final_block_votes.specs.Walk.{Sorted, SortedStore, block_at_place}
use Rattle.final_spec.proofs.Claimed.{well_stored, small_authors}

-- ---- accepted blocks

-- 25: an include's round is lower
lower_include : (c : Committee) (rs : List Record) (b : Block) → passes (block_checks c rs b) ≡ true → (i : BlockReference) → i ∈ b.includes → i.round <
    round b
unfolding block_checks body_checks include_checks
lower_include c rs b h i m =
    leb-false (round b) i.round
    (passes_none (block_checks c rs b) h (leb (round b) i.round ⇒ 25)
    (in_right (head_checks c b) (there (in_left _ (in_left _ (in_flatten (there here) (in_map (include_checks c b) m)))))))

lower_includes : (c : Committee) (rs : List Record) → all_accepted c rs ≡ true → (b : Block) → b ∈ blocks rs → (i : BlockReference) → i ∈ b.includes
    → i.round < round b
unfolding all_accepted
lower_includes c [] h b m i k = absurd (in_empty m)
lower_includes c (r ∷ rs) h b here i k = lower_include c rs b (and_left _ _ h) i k
lower_includes c (r ∷ rs) h b (there m) i k = lower_includes c rs (and_right (passes (block_checks c rs r.block)) _ h) b m i k

-- references ascend by round first
before_round : (r q : BlockReference) → reference_before r q ≡ true → r.round ≤ q.round
unfolding reference_before reference_key before
before_round r q h = go (or_cases (ltb r.round q.round) _ h)
  where
    go : (ltb r.round q.round ≡ true) ⊎ (eqb r.round q.round && before (r.authority ∷ r.digest) (q.authority ∷ q.digest) ≡ true) → r.round ≤
        q.round
    go (inl k) = omega (arith, ltb-true r.round q.round k)
    go (inr k) = omega (arith, eqb-true r.round q.round (and_left _ _ k))

pub entry_block : (rs : List Record) (e : Entry) → e ∈ entries rs → e.block ∈ blocks rs
unfolding entries
entry_block [] e x' = elim x' [ ]
entry_block (r ∷ rs) e here = here
entry_block (r ∷ rs) e (there m) = there (entry_block rs e m)

-- a stored block has a position
pub stored_somewhere : (rs : List Record) (i : BlockReference) → is_stored rs i ≡ true → 0 ≡ position_of (lookup (entries rs) i) → ⊥
unfolding position_of is_none
stored_somewhere rs i h z = go (lookup (entries rs) i) refl (sym (lookup_stored rs i) ∙ h) z
  where
    go : (o : Option Entry) → lookup (entries rs) i ≡ o → not (is_none o) ≡ true → 0 ≡ position_of o → ⊥
    go none e k w = not_both k refl
    go (some d) e k w = omega (arith, (every_in (entries rs) d (entries_within rs) (lookup_in (entries rs) i d e).0).from)

-- ---- the vote of a block

pub own_yes : (b : Block) (l : TransactionLocator) → votes_for b l ≡ true → own_vote b l ≡ inserted nobody (author b)
unfolding own_vote
own_yes b l h = rw h

pub own_no : (b : Block) (l : TransactionLocator) → votes_for b l ≡ false → own_vote b l ≡ nobody
unfolding own_vote
own_no b l h = rw h

-- ---- by places

pub some_committee : {c : Committee} {s : Bytes} {order : List ℕ} → Sorted c s order → SortedStore s order
unfolding SortedStore
some_committee {c} o = (c, o)

module _ (s : Bytes) (order : List ℕ) (o : SortedStore s order) where
  sorted_is : (c : Committee) × Sorted c s order
  unfolding SortedStore
  sorted_is = o

  sorted_accepted : all_accepted sorted_is.0 (records_of s) ≡ true
  sorted_accepted = (in_order_lem sorted_is.0 s sorted_is.1.in_order).accepted

  stored_blocks : Stored sorted_is.0 (blocks_of s)
  unfolding blocks_of
  stored_blocks =
      record { sound = sorted_is.1.sound; records = records_of s; accepted = sorted_accepted; blocks = refl }

  pub sorted_well : WellStored (blocks_of s)
  sorted_well = well_stored sorted_is.0 (blocks_of s) stored_blocks

  pub sorted_authors : (b : Block) → b ∈ blocks_of s → author b < 128
  sorted_authors b m = small_authors sorted_is.0 (blocks_of s) stored_blocks b m

  module _ (k : ℕ) (h : k < length order) where
    pub place_entry : is_entry s (get_or order k 0) ≡ true
    place_entry = order_entry s sorted_is.1.laid order sorted_is.1.places k h

    pub place_stored : block_at_place s order k ∈ blocks_of s
    unfolding blocks_of block_at_place
    place_stored =
        let e : EntryAt s (get_or order k 0) = entry_at s (get_or order k 0) place_entry in
        let q : block_at s (get_or order k 0) ≡ e.entry.block = ap (block_at s) (sym e.place) ∙ block_of_entry s e.reads e.entry e.stored in
        rw q (entry_block (records_of s) e.entry e.stored)

    pub place_author : author (block_at_place s order k) < 128
    place_author = sorted_authors (block_at_place s order k) place_stored

    module _ (j : ℕ) (n : j < length (block_at_place s order k).includes) where
      pub include_found : is_stored (records_of s) (get_or (block_at_place s order k).includes j no_reference) ≡ true
      unfolding blocks_of is_stored
      include_found =
          let i : BlockReference = get_or (block_at_place s order k).includes j no_reference in
          let d = include_stored sorted_well place_stored i (in_place no_reference (block_at_place s order k).includes j n) in
          let r = map_in (λ x. x.block) (records_of s) d.1 in
          in_any (λ x. same_reference x.block.reference i) r.1 (same_reference_lem (ap (λ (x : Block). x.reference) r.2 ∙ d.2))

      -- an include stands at a lower place
      pub include_lower : (i : ℕ) → i < length order → (block_at_place s order i).reference ≡ get_or (block_at_place s order k).includes j no_reference → i < k
      unfolding block_at_place reference_in blocks_of
      include_lower i m e = go (dec_lt i k)
        where
          lower : (block_at_place s order i).reference.round < round (block_at_place s order k)
          lower =
              rw e
              (lower_includes sorted_is.0 (records_of s) sorted_accepted (block_at_place s order k) place_stored
              (get_or (block_at_place s order k).includes j no_reference)
              (in_place no_reference (block_at_place s order k).includes j n))

          above : Dec (k ≡ i) → k ≤ i → i < k
          above (yes q) z = absurd (omega (arith, lower, ap (λ (x : ℕ). round (block_at_place s order x)) q))
          above (no q) z =
              absurd (omega (
                arith,
                lower,
                before_round (block_at_place s order k).reference (block_at_place s order i).reference
                    (order_rises s sorted_is.1.laid order sorted_is.1.places k i (omega arith) m),
              ))

          go : Dec (i < k) → i < k
          go (yes q) = q
          go (no q) = above (ℕ_discrete k i) (omega arith)
