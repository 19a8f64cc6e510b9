-- A size that is read, also of a record that is whole, is at most that of the longest record. Assumes nothing.
use mathlib.Core.Path.{◌≡◌, refl}
use mathlib.Core.Bool.{Bool, true, false, ◌||◌}
use mathlib.Core.List.{List}
use Prim.Native.Nat.{ℕ, ◌≤◌}
use native.Mathlib.Omega.{arith}
use lib.Dec.{ltb, eqb}
use lib.ListN.{length}
use borrow.Author.Tests.{ltb-false}
use Rattle.base.specs.Lists.{pick}
use Rattle.base.specs.Le.{le_at}
use Rattle.listing_input.specs.declared.Size.TheVariants.{End, Broken, Of}
use Rattle.listing_input.specs.Input.{size_of, whole_size}
use Rattle.listing_io.specs.Sizes.{size_at_most}

pub size_bound : (s : List ℕ) → size_at_most 8192 (size_of s)
unfolding size_of
size_bound s = among (eqb (length s) 0) (ltb (length s) 4) (ltb 8192 (le_at 4 s 0)) refl
  where
    among : (a b d : Bool) → ltb 8192 (le_at 4 s 0) ≡ d → size_at_most 8192 (pick a End (pick (b || d) Broken (Of (le_at 4 s 0))))
    among true b d e = omega arith
    among false true d e = omega arith
    among false false true e = omega arith
    among false false false e = ltb-false 8192 (le_at 4 s 0) e

pub whole_bound : (n got : ℕ) → n ≤ 8192 → size_at_most 8192 (whole_size n got)
unfolding whole_size
whole_bound n got h = go (ltb got n)
  where
    go : (t : Bool) → size_at_most 8192 (pick t Broken (Of n))
    go true = omega arith
    go false = h
