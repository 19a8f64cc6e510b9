-- References and locators read at a position. Assumes nothing.
use mathlib.Core.Path.{◌≡◌}
use mathlib.Core.List.{List}
use Prim.Native.Nat.{ℕ, ◌+◌}
use native.Mathlib.Omega.{arith}
use lib.ListN.{drop}
use lib.Seq.{drop-drop}
use Rattle.base.specs.Le.{le_at}
use Rattle.base.proofs.Fixed.{Fixed, fixed_items, fixed_bind, fixed_map, fixed_number}
use Rattle.record_spec.specs.Reference.{locator}
use Rattle.record_spec.specs.Record.{read_reference, read_locator}
use Rattle.record_reference_bytes.specs.Step.{reference_at, locator_at}

unfoldable pub fixed_reference : Fixed 48 read_reference
unfolding read_reference
fixed_reference =
    fixed_bind _ _ 8 40 (fixed_number 8) λ a.
    fixed_bind _ _ 8 32 (fixed_number 8) λ r.
    fixed_map _ (λ d. record { authority = a; round = r; digest = d }) 32 (fixed_items 32)

unfoldable pub fixed_locator : Fixed 56 read_locator
unfolding read_locator
fixed_locator =
    fixed_bind _ _ 48 8 fixed_reference λ b.
    fixed_map _ (λ o. record { block = b; offset = o }) 8 (fixed_number 8)

module _ (s : List ℕ) (p : ℕ) where
  pub reference_value : fixed_reference.value (drop p s) ≡ reference_at s p
  unfolding fixed_reference fixed_bind fixed_map fixed_number fixed_items reference_at le_at
  reference_value =
      let e : p + 8 + 8 ≡ p + 16 = omega arith in
      rw (drop-drop 8 p s, drop-drop 8 (p + 8) s, e)

  pub locator_value : fixed_locator.value (drop p s) ≡ locator_at s p
  unfolding fixed_locator fixed_bind fixed_map fixed_number fixed_items locator_at locator le_at
  locator_value = rw (drop-drop 48 p s, reference_value)
