-- Accepted records are well stored. Assumes nothing.
use mathlib.Core.Path.{◌≡◌, ap, ◌∙◌}
use mathlib.Core.Bool.{true, false, not}
use mathlib.Core.List.{List, [], ◌∷◌}
use borrow.Author.Tests.{not-false}
use Rattle.base.specs.Lists.{any_of, ◌∈◌, here, there}
use Rattle.base.specs.Checks.{◌⇒◌, passes}
use Rattle.base.proofs.Tests.{and_left, and_right, not_both, fails}
use Rattle.base.proofs.Members.{any_in, in_any, map_in, in_map, in_right}
use Rattle.base.proofs.Checks.{passes_none}
use Rattle.committee.specs.Committee.{Committee, known}
use Rattle.record_spec.specs.Reference.{BlockReference, same_reference}
use Rattle.record_spec.specs.Block.{Block, author}
use Rattle.record_spec.specs.Verify.{head_checks, body_checks}
use Rattle.record_spec.proofs.References.{reference_same, same_reference_lem}
use Rattle.store_spec.specs.Layout.{Record}
pub use Rattle.store_spec.specs.Layout.{blocks}
use Rattle.store_spec.specs.Accept.{is_stored, block_checks, all_accepted}
use Rattle.store_spec.proofs.Stored.{WellStored, fresh, stored}

-- 21: an accepted block's author is known
pub known_author : (c : Committee) (rs : List Record) (b : Block) → passes (block_checks c rs b) ≡ true → known c (author b) ≡ true
unfolding block_checks head_checks
known_author c rs b h = not-false (known c (author b)) (passes_none (block_checks c rs b) h (not (known c (author b)) ⇒ 21) here)

-- 23: an accepted block's reference is new
pub accepted_new : (c : Committee) (rs : List Record) (b : Block) → passes (block_checks c rs b) ≡ true → is_stored rs b.reference ≡ false
unfolding block_checks
accepted_new c rs b h = passes_none (block_checks c rs b) h (is_stored rs b.reference ⇒ 23) (in_right (head_checks c b) here)

-- 30: its includes are stored
pub accepted_includes : (c : Committee) (rs : List Record) (b : Block) → passes (block_checks c rs b) ≡ true → any_of (λ i. not (is_stored rs i)) b.includes ≡
    false
unfolding block_checks
accepted_includes c rs b h = passes_none (block_checks c rs b) h (any_of (λ i. not (is_stored rs i)) b.includes ⇒ 30)
    (in_right (head_checks c b) (there (in_right (body_checks c b) here)))

stored_block : (rs : List Record) (i : BlockReference) → is_stored rs i ≡ true → (d : Block) × (d ∈ blocks rs) × (d.reference ≡ i)
unfolding is_stored
stored_block rs i h =
    let r = any_in (λ x. same_reference x.block.reference i) rs h in
    (r.0.block, in_map (λ x. x.block) r.1, reference_same r.0.block.reference i r.2)

block_stored : (rs : List Record) (i : BlockReference) (d : Block) → d ∈ blocks rs → d.reference ≡ i → is_stored rs i ≡ true
unfolding is_stored
block_stored rs i d m e =
    let r = map_in (λ x. x.block) rs m in
    in_any (λ x. same_reference x.block.reference i) r.1 (same_reference_lem (ap (λ (x : Block). x.reference) r.2 ∙ e))

-- records accepted one after the other hold well stored blocks
pub accepted_stored : (c : Committee) (rs : List Record) → all_accepted c rs ≡ true → WellStored (blocks rs)
unfolding all_accepted
accepted_stored c [] h = fresh
accepted_stored c (r ∷ rs) h =
    let p : passes (block_checks c rs r.block) ≡ true = and_left _ _ h in
    stored
    (λ d m e. not_both (block_stored rs r.block.reference d m e) (accepted_new c rs r.block p))
    (λ i m. stored_block rs i (not-false (is_stored rs i) (fails _
    (λ t. not_both (in_any (λ j. not (is_stored rs j)) m t) (accepted_includes c rs r.block p)))))
    (accepted_stored c rs (and_right (passes (block_checks c rs r.block)) _ h))
