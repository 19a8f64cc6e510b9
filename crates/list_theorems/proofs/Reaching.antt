-- A list asked in bulk comes to its end with any slices that hold a stretch. Assumes nothing.
use mathlib.Core.Path.{◌≡◌, refl, ap, ◌∙◌}
use mathlib.Core.Bool.{Bool, true, false}
use mathlib.Core.List.{List, [], ◌∷◌, ◌++◌, map, flatten}
use mathlib.Core.Option.{Option}
use Prim.Native.Nat.{ℕ, ◌+◌, ◌-◌, ◌≤◌}
use native.Mathlib.Omega.{arith}
use lib.ListN.{length, length-append, length-map}
use Rattle.base.specs.Lists.{◌∈◌, here, there, all_of, count_from}
use Rattle.base.proofs.Lists.{length_count_from}
use Rattle.base.specs.Le.{Bytes}
use Rattle.base.specs.Checks.{checked, passes}
use Rattle.base.proofs.Tests.{not_both}
use Rattle.committee.specs.Committee.{Committee, broken}
use Rattle.record_spec.specs.Reference.{TransactionLocator, locator, locators, offsets, new_range}
use Rattle.store_spec.specs.Store.{store_in_order}
use Rattle.final_spec.specs.NextFinal.{next_final_checks}
use Rattle.final_spec.specs.Finality.{blocks_of}
use Rattle.list_stretches_spec.specs.Stretches.{Listing, FinalStretch, stretch_locators, stretches, reached, more_follow}
use Rattle.list_stretches_spec.specs.Bulk.{stretch_room, list_stretches, given_after}
use Rattle.list_stretches_spec.specs.Claims.{Lawful, Gives, Spread}
use Rattle.list_stretches_spec.proofs.Spreading.{spread, longest}
use Rattle.list_theorems.specs.Bulk.{held, Answered, AskedWith, ends, goes, spread_out}

-- a stretch that is not empty has a locator
stretch_filled : (t : FinalStretch) → t.first + 1 ≤ t.end → 1 ≤ length (stretch_locators t)
unfolding stretch_locators locators offsets new_range
stretch_filled t h = omega (arith, length-map (count_from t.first (t.end - t.first)) (locator t.block), length_count_from t.first (t.end - t.first))

module _ (c : Committee) (s : Bytes) (b : broken c ≡ false) (h : store_in_order c s ≡ true) (k : Listing) (law : Lawful (blocks_of s) k) where
  pub answered_as : (out : Bytes) (after : Option TransactionLocator) (more : Bool) → more_follow k (reached after (held c s k out after)) ≡ more → Answered c
      s k out after more
  unfolding list_stretches given_after next_final_checks checked passes all_of
  answered_as out after more e = rw (b, h, e)

  -- stretches of a list, some of them, have a locator
  some_given : (n : ℕ) (after : Option TransactionLocator) → 1 ≤ length (stretches c (blocks_of s) k n after) → 1 ≤ length
      (spread_out (stretches c (blocks_of s) k n after))
  unfolding spread_out flatten
  some_given n after m = go (stretches c (blocks_of s) k n after) m
      (λ t i. unfold locator in omega (arith, (longest c (blocks_of s) k law n after t i).ends.longer))
    where
      go : (ts : List FinalStretch) → 1 ≤ length ts → ((t : FinalStretch) → t ∈ ts → t.first + 1 ≤ t.end) → 1 ≤ length (spread_out ts)
      go [] m f = absurd (omega arith)
      go (t ∷ ts) m f = omega (arith, stretch_filled t (f t here), length-append (stretch_locators t) (spread_out ts))

  not_empty : (ls : List TransactionLocator) → (ls ≡ [] → ⊥) → 1 ≤ length ls
  not_empty [] f = absurd (f refl)
  not_empty (l ∷ ls) f = omega arith

  pub reach : (outs : List Bytes) → ((out : Bytes) → out ∈ outs → 80 ≤ length out) → 1 ≤ length outs → (after : Option TransactionLocator)
      (ls : List TransactionLocator)
      → Gives k after ls → length ls ≤ length outs → (ts : List FinalStretch) × AskedWith c s k after outs ts
  reach [] f some after ls g few = absurd (omega arith)
  reach (out ∷ outs) f some after ls g few = go (more_follow k (reached after ts)) refl (reach outs (λ o m. f o (there m)))
    where
      ts : List FinalStretch
      ts = held c s k out after

      a : Spread k (stretch_room out) after ls ts
      a = spread c (blocks_of s) k law (stretch_room out) after ls g

      go : (more : Bool) → more_follow k (reached after ts) ≡ more
          → (1 ≤ length outs → (from : Option TransactionLocator) (ms : List TransactionLocator) → Gives k from ms → length ms ≤ length outs →
          (us : List FinalStretch) × AskedWith c s k from outs us)
          → (us : List FinalStretch) × AskedWith c s k after (out ∷ outs) us
      go false e ih = (ts, ends out (answered_as out after false e))
      go true e ih =
          let left : 1 ≤ length a.rest = not_empty a.rest (λ z. not_both e (a.none_left.1 z)) in
          let many : length ts ≡ stretch_room out = a.full e in
          let given : 1 ≤ length (spread_out ts) = some_given (stretch_room out) after (omega (arith, many, f out here)) in
          let whole : length ls ≡ length (spread_out ts) + length a.rest = unfold spread_out in ap length a.splits ∙ length-append
          (flatten (map stretch_locators ts)) a.rest in
          let x = ih (omega (arith, left, given, whole, few)) (reached after ts) a.rest a.onward (omega (arith, given, whole, few)) in
          (ts ++ x.0, goes out (answered_as out after true e) x.1)
