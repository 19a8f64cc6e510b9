-- The stored block of a reference. Assumes nothing.
use mathlib.Core.Path.{◌≡◌, sym, ◌∙◌}
use mathlib.Core.Bool.{Bool}
use mathlib.Core.List.{List}
use mathlib.Core.Option.{some}
use Rattle.base.specs.Lists.{find, holds, ◌∈◌, here, there}
use Rattle.base.proofs.Tests.{same_test}
use Rattle.base.proofs.Lists.{find_in, find_passes, holds_some}
use Rattle.record_spec.specs.Reference.{BlockReference, TransactionLocator, same_reference}
use Rattle.record_spec.specs.Block.{Block, is_share_at}
use Rattle.record_spec.proofs.References.{reference_same, same_reference_lem, other_reference}
use Rattle.store_spec.specs.Shares.{is_stored_share}
use Rattle.store_spec.proofs.Stored.{WellStored, stored}
use Rattle.store_spec.proofs.Shares.{stored_share, share_stored}
use Rattle.load_spec.specs.Needs.{stored_block}

pub block_found : {bs : List Block} → WellStored bs → {b : Block} → b ∈ bs → (r : BlockReference) → b.reference ≡ r → stored_block bs r ≡ some b
unfolding stored_block find
block_found Rattle.store_spec.proofs.Stored.fresh {b = b} x5 r e = elim x5 [ ]
block_found (stored new found w) here r e = rw (same_reference_lem e)
block_found (stored {b = x} new found w) {b} (there m) r e = rw (other_reference x.reference r (λ k. new b m (e ∙ sym k)), block_found w m r e)

pub found_block : (bs : List Block) (r : BlockReference) (b : Block) → stored_block bs r ≡ some b → (b ∈ bs) × (b.reference ≡ r)
unfolding stored_block
found_block bs r b h =
    let p : Block → Bool = λ d. same_reference d.reference r in
    (find_in p bs b h, reference_same b.reference r (find_passes p bs b h))

pub of_stored_block : {bs : List Block} → WellStored bs → (l : TransactionLocator) → holds (λ b. is_share_at b l.offset) (stored_block bs l.block) ≡
    is_stored_share bs l
unfolding holds
of_stored_block {bs} w l =
    same_test _ (is_stored_share bs l)
    (λ h.
    let x = holds_some (λ b. is_share_at b l.offset) (stored_block bs l.block) h in
    let y = found_block bs l.block x.0 x.1 in
    share_stored bs l (record { block = x.0; stored = y.0; named = y.1; shared = x.2 }))
    (λ h. let x = stored_share bs l h in rw (block_found w x.stored l.block x.named) x.shared)
