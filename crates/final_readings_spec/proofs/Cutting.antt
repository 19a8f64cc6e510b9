-- Between two neighbouring edges of rejects every locator is rejected by the same blocks. Assumes nothing.
use mathlib.Core.Path.{◌≡◌, sym, ap, ◌∙◌}
use mathlib.Core.Bool.{true}
use mathlib.Core.List.{List, [], ◌∷◌, map, flatten}
use Prim.Native.Nat.{ℕ, ◌+◌, ◌≤◌, ◌<◌}
use native.Mathlib.Omega.{arith}
use native.Mathlib.Decide.{ℕ_discrete}
use Rattle.base.specs.Lists.{pick, ◌∈◌, here, there}
use Rattle.base.proofs.Tests.{fails}
use Rattle.base.proofs.Members.{in_flatten, in_map}
use Rattle.record_spec.specs.Reference.{TransactionLocator, locator, same_reference}
use Rattle.record_spec.specs.Block.{Block}
use Rattle.record_spec.proofs.References.{reference_refl}
use Rattle.final_readings_spec.specs.Rejecting.{rejections, rejects}
use Rattle.final_readings_spec.specs.NextFinal.{reject_edges}
use Rattle.final_readings_spec.proofs.Rejecting.{listed}

-- a rejected offset and the one after it are edges
edge_at : (bs : List Block) (d : Block) (l : TransactionLocator) → d ∈ bs → rejects d l ≡ true → (e : ℕ) → e ∈ (l.offset ∷ (l.offset + 1) ∷ []) → e ∈
    reject_edges bs l.block
unfolding reject_edges
edge_at bs d l m h e k =
    let own : TransactionLocator → List ℕ = λ x. pick (same_reference x.block l.block) (x.offset ∷ (x.offset + 1) ∷ []) [] in
    let inside : e ∈ own l = rw (reference_refl l.block) k in
    in_flatten (in_flatten inside (in_map own (listed d l h))) (in_map (λ (b : Block). flatten (map own (rejections b))) m)

-- where no edge lies above an offset up to another, both are rejected by the same blocks
pub rejects_between : (bs : List Block) (l : TransactionLocator) (o : ℕ) → l.offset ≤ o → ((e : ℕ) → e ∈ reject_edges bs l.block → l.offset < e → e ≤ o → ⊥)
    → (d : Block) → d ∈ bs → rejects d l ≡ rejects d (locator l.block o)
unfolding locator
rejects_between bs l o from clear d m = split (ℕ_discrete l.offset o)
  where
    split : Dec (l.offset ≡ o) → rejects d l ≡ rejects d (locator l.block o)
    split (yes e) = let own : l ≡ locator l.block o = λ i. record { block = l.block; offset = e i } in ap (rejects d) own
    split (no ne) =
        fails (rejects d l) (λ h. clear (l.offset + 1) (edge_at bs d l m h (l.offset + 1) (there here)) (omega arith) (omega arith))
        ∙ sym (fails (rejects d (locator l.block o)) (λ h. clear o (edge_at bs d (locator l.block o) m h o here) (omega arith) (omega arith)))
