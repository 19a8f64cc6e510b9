-- Blocks as a store in order holds them. Assumes nothing.
use mathlib.Core.Path.{◌≡◌, refl, sym}
use mathlib.Core.List.{List, [], ◌∷◌}
use Rattle.base.specs.Lists.{◌∈◌, here, there}
use Rattle.base.proofs.Members.{in_empty}
use Rattle.record_spec.specs.Reference.{BlockReference}
use Rattle.record_spec.specs.Block.{Block}

-- the newest first: no older block has its reference, and each include is the reference of an older block
pub data WellStored : List Block → Type 0 where
  fresh : WellStored []
  stored : {b : Block} {older : List Block} → ((d : Block) → d ∈ older → d.reference ≡ b.reference → ⊥)
      → ((i : BlockReference) → i ∈ b.includes → (d : Block) × (d ∈ older) × (d.reference ≡ i))
      → WellStored older → WellStored (b ∷ older)

-- an include of a stored block is stored
pub include_stored : {bs : List Block} → WellStored bs → {b : Block} → b ∈ bs → (i : BlockReference) → i ∈ b.includes → (d : Block) × (d ∈ bs) ×
    (d.reference ≡ i)
include_stored fresh m i k = absurd (in_empty m)
include_stored (stored new found w) here i k = let r = found i k in (r.0, there r.1, r.2)
include_stored (stored new found w) (there m) i k = let r = include_stored w m i k in (r.0, there r.1, r.2)

-- no two stored blocks have one reference
pub one_reference : {bs : List Block} → WellStored bs → {b d : Block} → b ∈ bs → d ∈ bs → b.reference ≡ d.reference → b ≡ d
one_reference fresh m k e = absurd (in_empty m)
one_reference (stored new found w) here here e = refl
one_reference (stored new found w) {d = d} here (there k) e = absurd (new d k (sym e))
one_reference (stored new found w) {b = b} (there m) here e = absurd (new b m e)
one_reference (stored new found w) (there m) (there k) e = one_reference w m k e

-- of the newest block and older ones, the block of an older one's reference is an older one
pub is_older : {h : Block} {older : List Block} → ((d : Block) → d ∈ older → d.reference ≡ h.reference → ⊥)
    → {i e : Block} → e ∈ older → e.reference ≡ i.reference → i ∈ (h ∷ older) → i ∈ older
is_older new {e = e} k q here = absurd (new e k q)
is_older new k q (there m) = m
