-- In a store that has grown the blocks that certified certify, at the positions where they stood. Assumes nothing.
use mathlib.Core.Path.{◌≡◌, refl, sym, ◌∙◌, subst}
use mathlib.Core.Bool.{true, false}
use mathlib.Core.List.{List, map, map-append}
use Prim.Native.Nat.{ℕ, ◌<◌}
use Rattle.base.specs.Lists.{keep, ◌∈◌}
use Rattle.base.specs.Le.{Bytes}
use Rattle.base.proofs.Members.{in_right, in_map, map_in, in_keep, keep_in, in_any, any_in}
use Rattle.committee.specs.Committee.{Committee, broken}
use Rattle.record_spec.specs.Reference.{TransactionLocator}
use Rattle.record_spec.specs.Block.{Block, author}
use Rattle.store_spec.specs.Layout.{Record, Entry, entries, ascending}
use Rattle.store_spec.specs.Store.{records_of, store_in_order}
use Rattle.store_spec.specs.Shares.{is_share_of, is_stored_share}
use Rattle.store_spec.proofs.Store.{in_order_lem}
use Rattle.store_spec.proofs.Stored.{WellStored}
use Rattle.store_spec.proofs.Shares.{blocks_entered}
use Rattle.store_spec.proofs.Lookups.{entries_older}
use Rattle.final_spec.specs.Finality.{blocks_of}
use Rattle.final_spec.specs.Claims.{Stored}
use Rattle.store_spec.proofs.Visit.{ascending_in, in_ascending}
use Rattle.final_spec.proofs.Claimed.{well_stored, small_authors}
use Rattle.final_readings_spec.specs.Readings.{Reading, certifies_in, is_final_in}
use Rattle.final_readings_spec.specs.Finality.{certifying_positions_in}
use Rattle.final_readings_spec.proofs.FinalsIn.{certifies_in_kept, final_in_stays}
use Rattle.trust_theorems.proofs.Growing.{Grown}

module _ (c : Committee) (s t : Bytes) (b : broken c ≡ false) (h : store_in_order c s ≡ true) (g : Grown c s t) where
  -- the blocks of a store in order were accepted one after the other
  accepted : (x : Bytes) → store_in_order c x ≡ true → Stored c (blocks_of x)
  unfolding blocks_of
  accepted x k = record { sound = b; records = records_of x; accepted = (in_order_lem c x k).accepted; blocks = refl }

  well : (x : Bytes) → store_in_order c x ≡ true → WellStored (blocks_of x)
  well x k = well_stored c (blocks_of x) (accepted x k)

  pub small : (x : Bytes) → store_in_order c x ≡ true → (d : Block) → d ∈ blocks_of x → author d < 128
  small x k = small_authors c (blocks_of x) (accepted x k)

  pub more_blocks : (x : Block) → x ∈ blocks_of s → x ∈ blocks_of t
  unfolding blocks_of
  more_blocks x m = rw (g.records, map-append) (in_right (map (λ (r : Record). r.block) g.later) m)

  -- an entry stands where it stood
  pub entered : (e : Entry) → e ∈ entries (records_of s) → e ∈ entries (records_of t)
  entered e m = subst (λ (rs : List Record). e ∈ entries rs) (sym g.records) (entries_older g.later (records_of s) e m)

  -- a stored share is one still
  pub share_stays : (l : TransactionLocator) → is_stored_share (blocks_of s) l ≡ true → is_stored_share (blocks_of t) l ≡ true
  unfolding is_stored_share
  share_stays l k = let x = any_in (λ d. is_share_of d l) (blocks_of s) k in in_any (λ d. is_share_of d l) (more_blocks x.0 x.1) x.2

  module _ (reading : Reading) (l : TransactionLocator) where
    -- a stored block certifies later exactly where it did
    kept : (x : Block) → x ∈ blocks_of s → certifies_in reading c (blocks_of s) l x ≡ certifies_in reading c (blocks_of t) l x
    kept = certifies_in_kept reading c (well s h) (well t g.order) (small s h) (small t g.order) more_blocks l

    pub final_stays : is_final_in reading c (blocks_of s) l ≡ true → is_final_in reading c (blocks_of t) l ≡ true
    final_stays = final_in_stays reading c (well s h) (well t g.order) (small s h) (small t g.order) more_blocks l

    -- what was named is named still
    pub positions_stay : (p : ℕ) → p ∈ certifying_positions_in reading c s l → p ∈ certifying_positions_in reading c t l
    unfolding certifying_positions_in
    positions_stay p m =
        let x = map_in (λ e. e.position) (keep (λ e. certifies_in reading c (blocks_of s) l e.block) (ascending (entries (records_of s)))) m in
        let q = keep_in (λ e. certifies_in reading c (blocks_of s) l e.block) (ascending (entries (records_of s))) x.1 in
        let stood : x.0 ∈ entries (records_of s) = ascending_in (entries (records_of s)) x.0 q.0 in
        subst (λ (n : ℕ). n ∈ certifying_positions_in reading c t l) x.2
        (in_map (λ (e : Entry). e.position)
        (in_keep (λ (e : Entry). certifies_in reading c (blocks_of t) l e.block) (ascending (entries (records_of t)))
        (in_ascending (entries (records_of t)) x.0 (entered x.0 stood)) (sym (kept x.0.block (its_block x.0 stood)) ∙ q.1)))
      where
        its_block : (e : Entry) → e ∈ entries (records_of s) → e.block ∈ blocks_of s
        its_block e j = unfold blocks_of in subst (λ (ds : List Block). e.block ∈ ds) (blocks_entered (records_of s)) (in_map (λ (d : Entry). d.block) j)
