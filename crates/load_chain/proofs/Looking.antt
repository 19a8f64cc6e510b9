-- One look at a share, in whichever reading. Assumes nothing.
use mathlib.Core.Path.{◌≡◌, refl}
use mathlib.Core.Bool.{Bool, true, false, ◌&&◌}
use mathlib.Core.List.{List, [], ◌∷◌}
use mathlib.Core.Option.{none, some, none-ne-some}
use Prim.Native.Nat.{ℕ, zero, suc, ◌≤◌, ◌<◌}
use native.Mathlib.Omega.{arith}
use lib.ListN.{length, take, drop, get_elem?}
use Rattle.base.specs.Le.{Bytes}
use Rattle.base.proofs.Lists.{holds_some}
use Rattle.base.proofs.Le.{AllBytes}
use Rattle.committee.specs.Committee.{Committee}
use Rattle.record_spec.specs.Reference.{TransactionLocator}
use Rattle.record_spec.specs.Block.{is_share, is_share_at}
use Rattle.store_spec.specs.Store.{store_in_order}
use Rattle.store_spec.specs.Payload.{StoreStretch, payload_at}
use Rattle.store_spec.specs.Shares.{is_stored_share}
use Rattle.store_spec.proofs.Shares.{stored_share, share_stored}
use Rattle.final_spec.specs.Finality.{blocks_of}
use Rattle.final_spec.proofs.Asked.{in_order_stored}
use Rattle.final_spec.proofs.Fits.{block_fits}
use Rattle.final_readings_spec.specs.Readings.{Reading, is_final_in}
use Rattle.final_block_votes.specs.Walk.{block_at_place}
use Rattle.load_spec.specs.Needs.{needed_by, payload_in}
use Rattle.load_spec.specs.Loadable.{is_loadable_in}
use Rattle.load_spec.proofs.Payloads.{payload_shared, shared_stored, payload_nowhere, payload_where}
use Rattle.load_spec.proofs.Looks.{no_share, not_final, needs_nothing, needs_late, needs_earlier}
use Rattle.load_chain.specs.Chain.{Placed, Never}

pub element_below : {A : Type 0} (xs : List A) (p : ℕ) (x : A) → get_elem? xs p ≡ some x → p < length xs
element_below [] p x h = absurd (none-ne-some x h)
element_below (y ∷ xs) zero x h = omega arith
element_below (y ∷ xs) (suc p) x h = omega (arith, element_below xs p x h)

module _ (s : Bytes) (bytes : AllBytes s) (l : TransactionLocator) where
  pub looked_nowhere : payload_at s l ≡ none → Never s l
  unfolding Never
  looked_nowhere e reading c x = no_share reading c (in_order_stored c s x) l (payload_nowhere c s bytes x l e)

  module _ (t : StoreStretch) (e : payload_at s l ≡ some t) where
    abbrev held : Bytes
    held = take t.count (drop t.start s)

    has : (c : Committee) → store_in_order c s ≡ true → payload_in (blocks_of s) l ≡ some held
    has c x = payload_where c s bytes x l t e

    pub looked_stored : (c : Committee) → store_in_order c s ≡ true → is_stored_share (blocks_of s) l ≡ true
    looked_stored c x = share_stored (blocks_of s) l (shared_stored (payload_shared (blocks_of s) l held (has c x)))

    pub looked_placed : (c : Committee) → store_in_order c s ≡ true → (order : List ℕ) (k : ℕ) → k < length order → (block_at_place s order k).reference
        ≡ l.block
        → Placed s order l k
    unfolding is_share_at
    looked_placed c x order k inside block =
        let y = stored_share (blocks_of s) l (looked_stored c x) in
        let z = holds_some is_share (get_elem? y.block.statements l.offset) y.shared in
        record {
          inside = inside;
          block = block;
          stored = looked_stored c x;
          small = omega (arith, element_below y.block.statements l.offset z.0 z.1, (block_fits s bytes y.block y.stored).few_statements);
        }

    pub looked_alone : needed_by held ≡ none → (reading : Reading) (c : Committee) → store_in_order c s ≡ true → is_loadable_in reading c (blocks_of s) l ≡
        is_final_in reading c (blocks_of s) l
    looked_alone k reading c x = go (is_final_in reading c (blocks_of s) l) refl
      where
        go : (f : Bool) → is_final_in reading c (blocks_of s) l ≡ f → is_loadable_in reading c (blocks_of s) l ≡ f
        go true f = needs_nothing reading c (in_order_stored c s x) l held (has c x) f k
        go false f = not_final reading c (in_order_stored c s x) l f

    module _ (m : TransactionLocator) (k : needed_by held ≡ some m) where
      pub looked_late : l.block.round ≤ m.block.round → Never s l
      unfolding Never
      looked_late h reading c x = needs_late reading c (in_order_stored c s x) l held (has c x) m k h

      pub looked_needs : m.block.round < l.block.round → (reading : Reading) (c : Committee) → store_in_order c s ≡ true
          → is_loadable_in reading c (blocks_of s) l ≡ is_final_in reading c (blocks_of s) l && is_loadable_in reading c (blocks_of s) m
      looked_needs h reading c x = go (is_final_in reading c (blocks_of s) l) refl
        where
          go : (f : Bool) → is_final_in reading c (blocks_of s) l ≡ f → is_loadable_in reading c (blocks_of s) l ≡ f && is_loadable_in reading c (blocks_of s) m
          go true f = needs_earlier reading c (in_order_stored c s x) l held (has c x) m f k h
          go false f = not_final reading c (in_order_stored c s x) l f
