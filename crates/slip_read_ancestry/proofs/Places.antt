-- Includes of a record stand at lower places. Assumes nothing.
use mathlib.Core.Path.{◌≡◌, sym, subst}
use mathlib.Core.Bool.{true, not, ◌&&◌}
use mathlib.Core.List.{List}
use mathlib.Core.Option.{some}
use Prim.Native.Nat.{ℕ, ◌<◌}
use native.Mathlib.Omega.{arith}
use native.Mathlib.Decide.{dec_lt, ℕ_discrete}
use lib.ListN.{length}
use borrow.Author.Tests.{not-false}
use Rattle.base.specs.Lists.{◌∈◌, here}
use Rattle.base.specs.Checks.{◌⇒◌, passes}
use Rattle.base.specs.Le.{Bytes}
use Rattle.base.proofs.Tests.{and_left}
use Rattle.base.proofs.Members.{all_in}
use Rattle.base.proofs.Checks.{passes_none}
use Rattle.committee.specs.Committee.{known}
use Rattle.committee.proofs.Bounds.{known_below, few_members}
use Rattle.record_spec.specs.Reference.{BlockReference, reference_before}
use Rattle.record_spec.specs.Block.{Block, author}
use Rattle.record_spec.specs.Verify.{head_checks, body_checks}
use Rattle.record_spec.proofs.References.{reference_irrefl, reference_trans, round_before}
use Rattle.slip_spec.specs.Supplied.{supplied_blocks, right_blocks}
use Rattle.slip_spec.specs.Paths.{named}
use Rattle.slip_spec.proofs.Paths.{named_reference}
use Rattle.slip_spec.proofs.Ancestry.{Falling, right_falling}
use Rattle.slip_read_records.specs.Places.{block_at_place, reference_in, Places}
use Rattle.slip_read_ancestry.specs.Lacking.{Right}

pub right_falls : (q : Bytes) → Right q → Falling (supplied_blocks q)
unfolding Right
right_falls q r = right_falling r.0 (supplied_blocks q) r.1.1

-- and have authors that a set can hold
pub right_small : (q : Bytes) → Right q → (b : Block) → b ∈ supplied_blocks q → author b < 128
unfolding Right right_blocks head_checks
right_small q r b m =
    let k = all_in (λ x. passes (head_checks r.0 x) && passes (body_checks r.0 x)) (supplied_blocks q) (and_left _ _ r.1.1) m in
    let j = not-false _ (passes_none (head_checks r.0 b) (and_left _ _ k) (not (known r.0 (author b)) ⇒ 21) here) in
    omega (arith, known_below r.0 (author b) j, few_members r.0 r.1.0)

module _ (q : Bytes) (order : List ℕ) (p : Places q (supplied_blocks q) order) (f : Falling (supplied_blocks q)) where
  -- the place of an include is lower
  pub lower_place : (j k : ℕ) → j < length order → k < length order → (i : BlockReference) → i ∈ (block_at_place q order j).includes
      → named (supplied_blocks q) i ≡ some (block_at_place q order k) → k < j
  lower_place j k h g i m e = go (dec_lt k j) (ℕ_discrete j k)
    where
      under : reference_before (reference_in q order k) (reference_in q order j) ≡ true
      under =
          round_before (reference_in q order k) (reference_in q order j)
          (subst (λ (r : BlockReference). r.round < (reference_in q order j).round) (sym (named_reference (supplied_blocks q) i (block_at_place q order k) e))
          (f.lower (block_at_place q order j) (p.only j h) i m))

      go : Dec (k < j) → Dec (j ≡ k) → k < j
      go (yes a) b = a
      go (no a) (yes b) = absurd (reference_irrefl (reference_in q order j)
          (subst (λ (x : ℕ). reference_before (reference_in q order x) (reference_in q order j) ≡ true) (sym b) under))
      go (no a) (no b) = absurd (reference_irrefl (reference_in q order j)
          (reference_trans (reference_in q order j) (reference_in q order k) (reference_in q order j) (p.sorted.rises j k (omega arith) g) under))
