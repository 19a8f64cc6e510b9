-- A block by its reference, among the records that come with a slip. Assumes nothing.
use mathlib.Core.Path.{◌≡◌, refl, sym, ap, ◌∙◌}
use mathlib.Core.Bool.{Bool}
use mathlib.Core.List.{List}
use mathlib.Core.Option.{Option, none, some}
use Prim.Native.Nat.{ℕ, ◌<◌}
use native.Mathlib.Omega.{arith}
use native.Mathlib.Decide.{dec_lt}
use lib.ListN.{length}
use Rattle.base.specs.Lists.{find}
use Rattle.base.specs.Le.{Bytes}
use Rattle.base.proofs.Lists.{find_passes, find_in}
use Rattle.base.proofs.Members.{find_some}
use Rattle.record_spec.specs.Reference.{BlockReference, same_reference, reference_before}
use Rattle.record_spec.specs.Block.{Block}
use Rattle.record_spec.proofs.References.{reference_same, same_reference_lem, reference_irrefl}
use Rattle.slip_spec.specs.Paths.{named}
use Rattle.slip_read_records.specs.Places.{block_at_place, reference_in, Sorted, Places}
use Rattle.record_reference_search.specs.Places.{Between}

module _ (q : Bytes) (order : List ℕ) (s : Sorted q order) where
  -- no two places have one reference
  pub one_place : (i j : ℕ) → i < length order → j < length order → reference_in q order i ≡ reference_in q order j → i ≡ j
  one_place i j h k e = go (dec_lt i j) (dec_lt j i)
    where
      go : Dec (i < j) → Dec (j < i) → i ≡ j
      go (yes a) b = absurd (reference_irrefl (reference_in q order j)
          (ap (λ (r : BlockReference). reference_before r (reference_in q order j)) (sym e) ∙ s.rises i j a k))
      go (no a) (yes b) = absurd (reference_irrefl (reference_in q order j)
          (ap (λ (r : BlockReference). reference_before (reference_in q order j) r) (sym e) ∙ s.rises j i b h))
      go (no a) (no b) = omega arith

module _ (q : Bytes) (bs : List Block) (order : List ℕ) (p : Places q bs order) (r : BlockReference) where
  abbrev asked : Block → Bool
  asked b = same_reference b.reference r

  -- the block that is named is the one at the place of the reference
  pub named_there : (j : ℕ) → j < length order → reference_in q order j ≡ r → named bs r ≡ some (block_at_place q order j)
  unfolding named
  named_there j h e =
      let y = find_some asked bs (p.only j h) (same_reference_lem e) in
      let x = p.given y.0 (find_in asked bs y.0 y.1) in
      let own : y.0.reference ≡ r = reference_same y.0.reference r (find_passes asked bs y.0 y.1) in
      let same : x.0 ≡ j = one_place q order p.sorted x.0 j x.1 h (ap (λ (b : Block). b.reference) x.2 ∙ own ∙ sym e) in
      y.1 ∙ ap some (sym x.2 ∙ ap (block_at_place q order) same)

  -- none is, where the reference stands between the places
  pub named_nowhere : (i : ℕ) → Between (length order) (reference_in q order) r i → named bs r ≡ none
  unfolding named
  named_nowhere i b = go (find asked bs) refl
    where
      at : (j : ℕ) → j < length order → reference_in q order j ≡ r → Dec (j < i) → ⊥
      at j h e (yes k) = reference_irrefl r (ap (λ (x : BlockReference). reference_before x r) (sym e) ∙ b.below j k)
      at j h e (no k) = reference_irrefl r (ap (λ (x : BlockReference). reference_before r x) (sym e) ∙ b.above j (omega arith) h)

      go : (o : Option Block) → find asked bs ≡ o → o ≡ none
      go none e = refl
      go (some y) e =
          let x = p.given y (find_in asked bs y e) in
          absurd (at x.0 x.1 (ap (λ (d : Block). d.reference) x.2 ∙ reference_same y.reference r (find_passes asked bs y e)) (dec_lt x.0 i))
