-- What stretches of the ordinary list are made of fits its bytes: blocks that are stored, offsets of shares. Assumes nothing.
use mathlib.Core.Path.{◌≡◌, refl, ap, subst, ◌∙◌}
use mathlib.Core.Bool.{true}
use mathlib.Core.List.{List, [], ◌∷◌}
use mathlib.Core.Option.{Option}
use Prim.Native.Nat.{ℕ, zero, suc, ◌-◌, ◌^◌, ◌<◌}
use native.Mathlib.Omega.{arith}
use lib.ListN.{length, get_elem?}
use Rattle.base.specs.Lists.{holds, ◌∈◌}
use Rattle.base.specs.Le.{Bytes}
use Rattle.base.proofs.Tests.{not_both, and_left}
use Rattle.base.proofs.Le.{AllBytes}
use Rattle.committee.specs.Committee.{Committee}
use Rattle.record_spec.specs.Reference.{TransactionLocator, locator}
use Rattle.record_spec.specs.Block.{Statement, is_share, is_share_at}
use Rattle.record_spec.proofs.Records.{ReferenceFits}
use Rattle.store_spec.specs.Shares.{is_stored_share}
use Rattle.store_spec.proofs.Shares.{stored_share}
use Rattle.final_spec.specs.Finality.{blocks_of}
use Rattle.final_spec.proofs.Fits.{block_fits}
use Rattle.list_stretches_spec.specs.Stretches.{FinalStretch, goes_on, stretch_at}
use Rattle.list_stretches_spec.proofs.Spreading.{begun, longest}
use Rattle.final_readings_spec.specs.Readings.{Reading, is_final_in}
use Rattle.list_readings_spec.specs.Lists.{is_listed, listing}
use Rattle.list_readings_spec.proofs.Least.{lists_lawful}
use Rattle.load_along.specs.Along.{share_list, ahead}

pub share_inside : (ss : List Statement) (o : ℕ) → holds is_share (get_elem? ss o) ≡ true → o < length ss
unfolding holds
share_inside [] o h = absurd (not_both h refl)
share_inside (x ∷ ss) zero h = omega arith
share_inside (x ∷ ss) (suc o) h = omega (arith, share_inside ss o h)

module _ (reading : Reading) (c : Committee) (s : Bytes) where
  -- a stretch's block is stored, so its words give it back
  pub stretch_fits : AllBytes s → (n : ℕ) (after : Option TransactionLocator) (t : FinalStretch) → t ∈ ahead reading c s n after → ReferenceFits t.block
  unfolding listing is_listed stretch_at
  stretch_fits bytes n after t m =
      let x = begun c (blocks_of s) (share_list reading c s) (lists_lawful true reading c (blocks_of s)) n after t m in
      let y = stored_share (blocks_of s) x.at (and_left (is_stored_share (blocks_of s) x.at) (is_final_in reading c (blocks_of s) x.at) x.shown) in
      subst ReferenceFits (y.named ∙ ap (λ (u : FinalStretch). u.block) x.stretch) (block_fits s bytes y.block y.stored).reference

  -- a share is one of at most 1,024 statements
  shown_small : AllBytes s → (l : TransactionLocator) → (share_list reading c s).shows l ≡ true → l.offset < 1024
  unfolding listing is_listed is_share_at
  shown_small bytes l h =
      let y = stored_share (blocks_of s) l (and_left (is_stored_share (blocks_of s) l) (is_final_in reading c (blocks_of s) l) h) in
      omega (arith, share_inside y.block.statements l.offset y.shared, (block_fits s bytes y.block y.stored).few_statements)

  pub stretch_small : AllBytes s → (n : ℕ) (after : Option TransactionLocator) (t : FinalStretch) → t ∈ ahead reading c s n after → (t.first < 256 ^ 8) ×
      (t.end < 256 ^ 8)
  unfolding locator goes_on
  stretch_small bytes n after t m =
      let x = longest c (blocks_of s) (share_list reading c s) (lists_lawful true reading c (blocks_of s)) n after t m in
      let far : t.first < t.end = x.ends.longer in
      let goes = x.ends.goes (t.end - 1) (omega (arith, far)) (omega (arith, far)) in
      let last : t.end - 1 < 1024 = shown_small bytes (locator t.block (t.end - 1))
      (and_left ((share_list reading c s).shows (locator t.block (t.end - 1))) _ goes) in
      (omega (arith, far, last), omega (arith, far, last))
