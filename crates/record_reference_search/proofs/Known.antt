-- The search among references that a caller knows otherwise. Assumes nothing.
use Prim.Native.Nat.{ℕ, ◌+◌, ◌≤◌, ◌<◌}
use mathlib.Core.Path.{◌≡◌, sym, subst, ◌∙◌}
use mathlib.Core.List.{List}
use native.Mathlib.Omega.{arith}
use lib.ListN.{length, get_or}
use Rattle.base.specs.Le.{Bytes}
use Rattle.record_spec.specs.Reference.{BlockReference}
use Rattle.record_reference_bytes.specs.Step.{reference_at}
use Rattle.record_reference_search.specs.Places.{reference_from, Rising, Ascending, Between, FoundAmong}
use Rattle.std.specs.Prelude.{Err, Ok, Result}

module _ (s : Bytes) (order : List ℕ) (skip : ℕ) (at : ℕ → BlockReference)
    (stand : (j : ℕ) → j < length order → (get_or order j 0 + skip + 48 ≤ length s) × (reference_at s (get_or order j 0 + skip) ≡ at j)) where
  pub known_ascend : Rising (length order) at → Ascending s order skip
  unfolding reference_from
  known_ascend rise =
      record {
        inside = λ j h. (stand j h).0;
        rises = λ i j (h : i < j) k. rw ((stand i (omega arith)).1, (stand j k).1) (rise i j h k);
      }

  pub known_at : (r : BlockReference) (p : Result ℕ ℕ) (j : ℕ) → p ≡ Ok j → FoundAmong (length order) (reference_from s order skip) r p → (j < length order) ×
      (at j ≡ r)
  unfolding FoundAmong reference_from
  known_at r p j e f = let g = subst (FoundAmong (length order) (reference_from s order skip) r) e f in (g.0, sym (stand j g.0).1 ∙ g.1)

  pub known_between : (r : BlockReference) (p : Result ℕ ℕ) (j : ℕ) → p ≡ Err j → FoundAmong (length order) (reference_from s order skip) r p → Between
      (length order) at r j
  unfolding FoundAmong reference_from
  known_between r p j e f =
      let g = subst (FoundAmong (length order) (reference_from s order skip) r) e f in
      record {
        most = g.most;
        below = λ i (h : i < j). rw (stand i (omega (arith, g.most))).1 at (g.below i h);
        above = λ i h k. rw (stand i k).1 at (g.above i h k);
      }
