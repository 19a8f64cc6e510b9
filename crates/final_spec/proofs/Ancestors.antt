-- Ancestry among stored blocks. Assumes nothing.
use mathlib.Core.Path.{◌≡◌, sym, subst}
use mathlib.Core.List.{List, ◌∷◌}
use Rattle.base.specs.Lists.{◌∈◌}
use Rattle.record_spec.specs.Reference.{BlockReference}
use Rattle.record_spec.specs.Block.{Block}
use Rattle.store_spec.proofs.Stored.{WellStored, include_stored, one_reference, is_older}
use Rattle.final_spec.specs.Ancestry.{Ancestor, itself, included}

-- among more blocks the ancestors stay
pub ancestor_grows : {bs cs : List Block} → ((x : Block) → x ∈ bs → x ∈ cs) → {d b : Block} → Ancestor bs d b → Ancestor cs d b
ancestor_grows f {d} (itself m) = itself (f d m)
ancestor_grows f (included {b = b} m k a) = included (f b m) k (ancestor_grows f a)

-- an ancestor is stored, and so is what it is an ancestor of
pub ancestor_stored : {bs : List Block} {d b : Block} → Ancestor bs d b → d ∈ bs
ancestor_stored (itself m) = m
ancestor_stored (included m k a) = ancestor_stored a

pub descendant_stored : {bs : List Block} {d b : Block} → Ancestor bs d b → b ∈ bs
descendant_stored (itself m) = m
descendant_stored (included m k a) = m

-- a newer block adds no ancestors to an older one
pub ancestor_older : {h : Block} {older : List Block} → ((d : Block) → d ∈ older → d.reference ≡ h.reference → ⊥) → WellStored older
    → {d b : Block} → b ∈ older → Ancestor (h ∷ older) d b → Ancestor older d b
ancestor_older new w m (itself k) = itself m
ancestor_older new w m (included {i = i} k j a) =
    let r = include_stored w m i.reference j in
    included m j (ancestor_older new w (is_older new r.1 r.2 (descendant_stored a)) a)

-- where the ancestry of a block among bs is stored among cs too, it is its ancestry there
pub ancestor_kept : {bs cs : List Block} {d b : Block} → ((x : Block) → Ancestor bs x b → x ∈ cs) → Ancestor bs d b → Ancestor cs d b
ancestor_kept {d = d} f (itself m) = itself (f d (itself m))
ancestor_kept {b = b} f (included {i = i} m k a) = included (f b (itself m)) k (ancestor_kept (λ x y. f x (included m k y)) a)

-- and it has no other ancestry there
pub ancestor_only : {bs cs : List Block} → WellStored bs → WellStored cs → {d b : Block} → b ∈ bs → ((x : Block) → Ancestor bs x b → x ∈ cs) → Ancestor cs d b
    → Ancestor bs d b
ancestor_only v w m f (itself k) = itself m
ancestor_only {bs} {cs} v w {b = b} m f (included {i = i} k j a) =
    let r = include_stored v m i.reference j in
    let step : i.reference ≡ r.0.reference = sym r.2 in
    let kept : r.0 ∈ cs = f r.0 (included m (subst (λ (q : BlockReference). q ∈ b.includes) step j) (itself r.1)) in
    let same_one : i ≡ r.0 = one_reference w (descendant_stored a) kept step in
    let here_too : i ∈ bs = subst (λ (x : Block). x ∈ bs) (sym same_one) r.1 in
    included m j (ancestor_only v w here_too (λ x y. f x (included m j y)) a)
