-- The stored blocks one after the other in order of arrival, and what is known of the next. Assumes nothing.
use mathlib.Core.Path.{◌≡◌, refl, sym, ap, subst, ◌∙◌}
use mathlib.Core.Bool.{true}
use mathlib.Core.List.{List, [], ◌∷◌, ◌++◌}
use Prim.Native.Nat.{ℕ, ◌+◌, ◌-◌, ◌<◌}
use native.Mathlib.Omega.{arith}
use native.Mathlib.Numerals.{add-one}
use lib.ListN.{length, get_or, take, drop, length-drop, take-append-drop}
use lib.Seq.{drop-cons}
use Rattle.base.specs.Lists.{◌∈◌, here, there}
use Rattle.base.specs.Le.{Bytes}
use Rattle.base.specs.Checks.{passes}
use Rattle.base.proofs.Tests.{and_left}
use Rattle.base.proofs.Le.{AllBytes}
use Rattle.base.proofs.Lists.{every_in}
use Rattle.base.proofs.Members.{in_right, in_any, map_in}
use Rattle.committee.specs.Committee.{Committee}
use Rattle.committee.proofs.Bounds.{few_members, known_below}
use Rattle.record_spec.specs.Reference.{BlockReference, same_reference}
use Rattle.record_spec.specs.Block.{Block, author, spans}
use Rattle.record_spec.proofs.References.{same_reference_lem}
use Rattle.record_spec.proofs.Records.{BlockFits, block_of_fits}
use Rattle.store_spec.specs.Layout.{Record, used_by}
use Rattle.store_spec.specs.Store.{records_of, record_in}
use Rattle.store_spec.specs.Accept.{is_stored, block_checks, all_accepted}
use Rattle.store_spec.specs.Entry.{record_at, block_at, positions, is_entry}
use Rattle.store_spec.proofs.Walk.{Walked, then, walked_drop, Stands}
use Rattle.store_spec.proofs.Loops.{formed_at, block_at_lem, place_entry, length_positions}
use Rattle.store_spec.proofs.Sorted.{is_in_lem}
use Rattle.store_spec.proofs.Search.{laid_out_lem}
use Rattle.store_spec.proofs.Lookups.{accepted_older, position_at}
use Rattle.store_spec.proofs.Store.{in_order_lem, records_of_bytes, records_of_right, right_block}
use Rattle.store_spec.proofs.Stored.{WellStored, stored}
use Rattle.store_spec.proofs.Accepted.{blocks, known_author, accepted_stored}
use Rattle.final_block_votes.specs.Walk.{Sorted}
use Rattle.index_own_runs.specs.Own.{EndsFit, Voting}
use Rattle.index_check.specs.Known.{Rooted}
use Rattle.index_check.proofs.Fits.{ends_fit}

-- the first i records in order of arrival, the newest first
unfoldable pub older_at : List Record → ℕ → List Record
older_at rs i = drop (length rs - i) rs

pub older_none : (rs : List Record) → older_at rs 0 ≡ []
unfolding older_at
older_none rs = let e : length rs - 0 ≡ length rs = omega arith in rw e (none rs)
  where
    none : (qs : List Record) → drop (length qs) qs ≡ []
    none [] = refl
    none (q ∷ qs) = none qs

pub older_all : (rs : List Record) → older_at rs (length rs) ≡ rs
unfolding older_at
older_all rs = let e : length rs - length rs ≡ 0 = omega arith in rw e

-- the next record
pub record Arrival (rs : List Record) (i : ℕ) : Type 0 where
  pub newer : List Record
  pub own : Record
  pub are : rs ≡ newer ++ own ∷ older_at rs i
  pub next : older_at rs (i + 1) ≡ own ∷ older_at rs i
  pub many : length (older_at rs i) ≡ i

pub arrival : (rs : List Record) (i : ℕ) → i < length rs → Arrival rs i
unfolding older_at
arrival rs i h =
    let k : ℕ = length rs - (i + 1) in
    let m : k < length rs = omega arith in
    let e : k + 1 ≡ length rs - i = omega arith in
    let n : drop k rs ≡ get_or rs k (record_in []) ∷ drop (length rs - i) rs = drop_next_record k m
    ∙ ap (λ (j : ℕ). get_or rs k (record_in []) ∷ drop j rs) e in
    record {
      newer = take k rs;
      own = get_or rs k (record_in []);
      are = sym (take-append-drop k rs) ∙ ap (λ (qs : List Record). take k rs ++ qs) n;
      next = n;
      many = omega (arith, length-drop (length rs - i) rs);
    }
  where
    drop_next_record : (k : ℕ) → k < length rs → drop k rs ≡ get_or rs k (record_in []) ∷ drop (k + 1) rs
    drop_next_record k m = rw (add-one k) (drop-cons rs k (record_in []) m)

-- ---- what is known of it

module _ (c : Committee) (s : Bytes) (order : List ℕ) (o : Sorted c s order) (bytes : AllBytes s) (i : ℕ) (h : i < length (records_of s)) where
  abbrev rs : List Record
  rs = records_of s

  abbrev older : List Record
  older = older_at rs i

  abbrev a : Arrival rs i
  a = arrival rs i h

  abbrev own : Record
  own = a.own

  accepted : all_accepted c (own ∷ older) ≡ true
  accepted = accepted_older c a.newer (own ∷ older) (subst (λ (qs : List Record). all_accepted c qs ≡ true) a.are (in_order_lem c s o.in_order).accepted)

  pub own_passes : passes (block_checks c older own.block) ≡ true
  unfolding all_accepted
  own_passes = and_left (passes (block_checks c older own.block)) (all_accepted c older) accepted

  pub older_stored : WellStored (own.block ∷ blocks older)
  older_stored = accepted_stored c (own ∷ older) accepted

  pub own_stands : Stands s (used_by older) own
  unfolding older_at
  own_stands = go (subst (Walked s) a.next (walked_drop s (length rs - (i + 1)) rs (laid_out_lem s o.laid).reads.walked))
    where
      go : Walked s (own ∷ older) → Stands s (used_by older) own
      go (then w k) = k

  pub arrived_entry : is_entry s (used_by older) ≡ true
  arrived_entry =
      place_entry s (laid_out_lem s o.laid).tested (positions rs) refl (used_by older)
      (is_in_lem (used_by older) (positions rs) i (omega (arith, length_positions rs)) there_is)
    where
      there_is : get_or (positions rs) i 0 ≡ used_by older
      there_is =
          ap (λ (qs : List Record). get_or (positions qs) i 0) a.are
          ∙ ap (λ (j : ℕ). get_or (positions (a.newer ++ own ∷ older)) j 0) (sym a.many)
          ∙ position_at a.newer older own

  pub arrived_block : block_at s (used_by older) ≡ own.block
  arrived_block = block_at_lem s (used_by older) own own_stands

  own_in : own ∈ rs
  own_in = subst (λ (qs : List Record). own ∈ qs) (sym a.are) (in_right a.newer here)

  pub own_fits : BlockFits own.block
  own_fits = block_of_fits own.bytes own.block (every_in rs own (records_of_bytes s bytes) own_in) (right_block own (every_in rs own (records_of_right
      s) own_in))

  pub arrived_voting : Voting (record_at s (used_by older))
  unfolding block_at
  arrived_voting =
      record {
        formed = formed_at s (used_by older) own own_stands;
        author = subst (λ (b : Block). author b < 128) (sym arrived_block) (omega (
          arith,
          few_members c o.sound,
          known_below c (author own.block)
              (known_author c older own.block own_passes),
        ));
        ends = subst (λ (b : Block). EndsFit (spans b)) (sym arrived_block) (ends_fit own.block own_fits c older own_passes);
      }

  stored_too : (r : BlockReference) (d : Block) → d ∈ blocks older → d.reference ≡ r → is_stored rs r ≡ true
  unfolding is_stored
  stored_too r d m e =
      let q = map_in (λ x. x.block) older m in
      in_any (λ x. same_reference x.block.reference r)
      (subst (λ (qs : List Record). q.0 ∈ qs) (sym a.are) (in_right a.newer (there q.1)))
      (same_reference_lem (ap (λ (x : Block). x.reference) q.2 ∙ e))

  pub arrived_rooted : Rooted s (blocks older) own.block
  arrived_rooted = go older_stored
    where
      go : WellStored (own.block ∷ blocks older) → Rooted s (blocks older) own.block
      go (stored new found w) = record { found = found; stored = λ r m. let d = found r m in stored_too r d.0 d.1 d.2 }

  pub arrived_stored : is_stored rs own.block.reference ≡ true
  unfolding is_stored
  arrived_stored = in_any (λ x. same_reference x.block.reference own.block.reference) own_in (same_reference_lem {r = own.block.reference} refl)
