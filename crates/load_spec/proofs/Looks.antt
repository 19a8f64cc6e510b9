-- One look at a share says whether it is loadable, or names the one that says so. Assumes nothing.
use mathlib.Core.Path.{◌≡◌, refl, ◌∙◌}
use mathlib.Core.Bool.{true, false, and-false}
use mathlib.Core.List.{List}
use mathlib.Core.Option.{none, some}
use Prim.Native.Nat.{◌≤◌, ◌<◌}
use borrow.Author.Tests.{lt-ltb, le-ltb}
use Rattle.base.specs.Lists.{holds}
use Rattle.base.specs.Le.{Bytes}
use Rattle.committee.specs.Committee.{Committee}
use Rattle.record_spec.specs.Reference.{TransactionLocator}
use Rattle.record_spec.specs.Block.{Block}
use Rattle.store_spec.proofs.Stored.{WellStored}
use Rattle.final_readings_spec.specs.Readings.{Reading, is_final_in}
use Rattle.load_spec.specs.Needs.{needed_by, payload_in}
use Rattle.load_spec.specs.Loadable.{met, loadable_by, is_loadable_in}
use Rattle.load_spec.proofs.Meaning.{by_test}

module _ (reading : Reading) (c : Committee) {bs : List Block} (w : WellStored bs) (l : TransactionLocator) where
  by_own : is_loadable_in reading c bs l ≡ loadable_by (is_loadable_in reading c bs) reading c bs l
  by_own = by_test reading c w (is_loadable_in reading c bs) l (λ m r. refl)

  pub no_share : payload_in bs l ≡ none → is_loadable_in reading c bs l ≡ false
  unfolding loadable_by holds
  no_share e = by_own ∙ rw e (and-false (is_final_in reading c bs l))

  pub not_final : is_final_in reading c bs l ≡ false → is_loadable_in reading c bs l ≡ false
  unfolding loadable_by
  not_final e = by_own ∙ rw e

  module _ (p : Bytes) (e : payload_in bs l ≡ some p) where
    pub needs_nothing : is_final_in reading c bs l ≡ true → needed_by p ≡ none → is_loadable_in reading c bs l ≡ true
    unfolding loadable_by holds met
    needs_nothing f k = by_own ∙ rw (f, e, k)

    pub needs_late : (m : TransactionLocator) → needed_by p ≡ some m → l.block.round ≤ m.block.round → is_loadable_in reading c bs l ≡ false
    unfolding loadable_by holds met
    needs_late m k h = by_own ∙ rw (e, k, le-ltb m.block.round l.block.round h) (and-false (is_final_in reading c bs l))

    pub needs_earlier : (m : TransactionLocator) → is_final_in reading c bs l ≡ true → needed_by p ≡ some m → m.block.round < l.block.round → is_loadable_in
        reading c bs l ≡ is_loadable_in reading c bs m
    unfolding loadable_by holds met
    needs_earlier m f k h = by_own ∙ rw (f, e, k, lt-ltb m.block.round l.block.round h)
