-- Blocks in ascending reference order. Assumes nothing.
use mathlib.Core.Path.{◌≡◌, refl, ap, ◌∙◌}
use mathlib.Core.Logic.{◌⊎◌, inl, inr}
use mathlib.Core.Bool.{Bool, true, false}
use mathlib.Core.List.{List, [], ◌∷◌}
use Prim.Native.Nat.{suc}
use lib.ListN.{length}
use Rattle.base.specs.Lists.{pick, keep, ◌∈◌, there}
use Rattle.base.proofs.Members.{in_cases, in_first}
use Rattle.base.proofs.Lists.{Every, none_of, and, every, Pairs, no_pairs, with_later}
use Rattle.record_spec.specs.Reference.{same_reference, reference_before}
use Rattle.record_spec.specs.Block.{Block}
use Rattle.record_spec.proofs.References.{reference_trans, reference_other}
use Rattle.slip_spec.specs.Writing.{placed_block, ascending_blocks}

-- a block of a lesser reference
abbrev pub lower : Block → Block → Bool
lower b d = reference_before b.reference d.reference

-- references that differ
abbrev pub Distinct : List Block → Type 0
Distinct bs = Pairs (λ b d. same_reference b.reference d.reference ≡ false) bs

placed_every : {P : Block → Type 0} (b : Block) (ds : List Block) → P b → Every P ds → Every P (placed_block b ds)
unfolding placed_block
placed_every b [] h none_of = and h none_of
placed_every {P} b (d ∷ ds) h (and k ks) = go (lower b d) (placed_every b ds h ks)
  where
    go : (t : Bool) → Every P (placed_block b ds) → Every P (pick t (b ∷ d ∷ ds) (d ∷ placed_block b ds))
    go true q = and h (and k ks)
    go false q = and k q

ascending_every : {P : Block → Type 0} (bs : List Block) → Every P bs → Every P (ascending_blocks bs)
unfolding ascending_blocks
ascending_every [] none_of = none_of
ascending_every (b ∷ bs) (and h hs) = placed_every b (ascending_blocks bs) h (ascending_every bs hs)

placed_ascends : (b : Block) (ds : List Block) → Every (λ d. same_reference b.reference d.reference ≡ false) ds → Pairs (λ e d. lower e d ≡ true) ds →
    Pairs (λ e d. lower e d ≡ true) (placed_block b ds)
unfolding placed_block
placed_ascends b [] none_of no_pairs = with_later none_of no_pairs
placed_ascends b (d ∷ ds) (and a as') (with_later h hs) = go (lower b d) refl (placed_ascends b ds as' hs)
  where
    go : (t : Bool) → lower b d ≡ t → Pairs (λ e d. lower e d ≡ true) (placed_block b ds) → Pairs (λ e d. lower e d ≡ true)
        (pick t (b ∷ d ∷ ds) (d ∷ placed_block b ds))
    go true l q = with_later (and l (every (λ f k. reference_trans b.reference d.reference f.reference l k) ds h)) (with_later h hs)
    go false l q = with_later (placed_every b ds (reference_other b.reference d.reference a l) h) q

-- sorted blocks ascend
pub ascending_ascends : (bs : List Block) → Distinct bs → Pairs (λ e d. lower e d ≡ true) (ascending_blocks bs)
unfolding ascending_blocks
ascending_ascends [] no_pairs = no_pairs
ascending_ascends (b ∷ bs) (with_later h hs) = placed_ascends b (ascending_blocks bs) (ascending_every bs h) (ascending_ascends bs hs)

-- ---- the same blocks

in_placed : (b x : Block) (ds : List Block) → (x ≡ b) ⊎ (x ∈ ds) → x ∈ placed_block b ds
unfolding placed_block
in_placed b x [] (inl e) = in_first e
in_placed b x [] (inr m) = there m
in_placed b x (d ∷ ds) m = go (lower b d) m (λ k. in_placed b x ds k)
  where
    later : (x ≡ d) ⊎ (x ∈ ds) → ((x ≡ b) ⊎ (x ∈ ds) → x ∈ placed_block b ds) → x ∈ (d ∷ placed_block b ds)
    later (inl e) ih = in_first e
    later (inr k) ih = there (ih (inr k))

    go : (t : Bool) → (x ≡ b) ⊎ (x ∈ (d ∷ ds)) → ((x ≡ b) ⊎ (x ∈ ds) → x ∈ placed_block b ds) → x ∈ pick t (b ∷ d ∷ ds) (d ∷ placed_block b ds)
    go true (inl e) ih = in_first e
    go true (inr k) ih = there k
    go false (inl e) ih = there (ih (inl e))
    go false (inr k) ih = later (in_cases k) ih

placed_in : (b x : Block) (ds : List Block) → x ∈ placed_block b ds → (x ≡ b) ⊎ (x ∈ ds)
unfolding placed_block
placed_in b x [] m = in_cases m
placed_in b x (d ∷ ds) m = go (lower b d) m (λ k. placed_in b x ds k)
  where
    more : (x ≡ b) ⊎ (x ∈ ds) → (x ≡ b) ⊎ (x ∈ (d ∷ ds))
    more (inl e) = inl e
    more (inr k) = inr (there k)

    later : (x ≡ d) ⊎ (x ∈ placed_block b ds) → (x ∈ placed_block b ds → (x ≡ b) ⊎ (x ∈ ds)) → (x ≡ b) ⊎ (x ∈ (d ∷ ds))
    later (inl e) ih = inr (in_first e)
    later (inr k) ih = more (ih k)

    go : (t : Bool) → x ∈ pick t (b ∷ d ∷ ds) (d ∷ placed_block b ds) → (x ∈ placed_block b ds → (x ≡ b) ⊎ (x ∈ ds)) → (x ≡ b) ⊎ (x ∈ (d ∷ ds))
    go true k ih = in_cases k
    go false k ih = later (in_cases k) ih

pub in_ascending : (bs : List Block) (x : Block) → x ∈ bs → x ∈ ascending_blocks bs
unfolding ascending_blocks
in_ascending [] x m = elim m [ ]
in_ascending (b ∷ bs) x m = in_placed b x (ascending_blocks bs) (go (in_cases m) (λ k. in_ascending bs x k))
  where
    go : (x ≡ b) ⊎ (x ∈ bs) → (x ∈ bs → x ∈ ascending_blocks bs) → (x ≡ b) ⊎ (x ∈ ascending_blocks bs)
    go (inl e) ih = inl e
    go (inr k) ih = inr (ih k)

pub ascending_in : (bs : List Block) (x : Block) → x ∈ ascending_blocks bs → x ∈ bs
unfolding ascending_blocks
ascending_in [] x m = m
ascending_in (b ∷ bs) x m = go (placed_in b x (ascending_blocks bs) m) (λ k. ascending_in bs x k)
  where
    go : (x ≡ b) ⊎ (x ∈ ascending_blocks bs) → (x ∈ ascending_blocks bs → x ∈ bs) → x ∈ (b ∷ bs)
    go (inl e) ih = in_first e
    go (inr k) ih = there (ih k)

-- a test holds of as many
length_placed : (p : Block → Bool) (b : Block) (ds : List Block) → length (keep p (placed_block b ds)) ≡ length (keep p (b ∷ ds))
unfolding placed_block keep
length_placed p b [] = refl
length_placed p b (d ∷ ds) = by (lower b d) (length_placed p b ds)
  where
    go : (u v : Bool) → length (keep p (placed_block b ds)) ≡ length (pick u (b ∷ keep p ds) (keep p ds))
        → length (pick v (d ∷ keep p (placed_block b ds)) (keep p (placed_block b ds))) ≡ length
        (pick u (b ∷ pick v (d ∷ keep p ds) (keep p ds)) (pick v (d ∷ keep p ds) (keep p ds)))
    go true true e = ap suc e
    go true false e = e
    go false true e = ap suc e
    go false false e = e

    by : (t : Bool) → length (keep p (placed_block b ds)) ≡ length (keep p (b ∷ ds)) → length (keep p (pick t (b ∷ d ∷ ds) (d ∷ placed_block b ds))) ≡ length
        (keep p (b ∷ d ∷ ds))
    by true e = refl
    by false e = go (p b) (p d) e

pub length_ascending : (p : Block → Bool) (bs : List Block) → length (keep p (ascending_blocks bs)) ≡ length (keep p bs)
unfolding ascending_blocks keep
length_ascending p [] = refl
length_ascending p (b ∷ bs) = length_placed p b (ascending_blocks bs) ∙ first (p b) (length_ascending p bs)
  where
    first : (t : Bool) → length (keep p (ascending_blocks bs)) ≡ length (keep p bs) → length
        (pick t (b ∷ keep p (ascending_blocks bs)) (keep p (ascending_blocks bs))) ≡ length (pick t (b ∷ keep p bs) (keep p bs))
    first true e = ap suc e
    first false e = e
