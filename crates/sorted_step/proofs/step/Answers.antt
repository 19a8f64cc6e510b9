use Prim.Native.Nat.{ℕ, ◌<◌}
use mathlib.Core.Path.{sym, subst, ◌∙◌}
use Rattle.record_spec.specs.Record.{block_in}
use Rattle.types.proofs.References.{as_author}
use Rattle.index_spec.specs.Walk.{part_at}
use Rattle.sorted_spec.specs.Sorted.{asked}
use Rattle.sorted_step.proofs.Merges.{marked_stays}
use Rattle.sorted_step.proofs.step.Goals as goal

pub returns-then-epoch_changed : goal.returns-then-epoch_changed
returns-then-epoch_changed c =
    let a = c.args in
    let k = c.requires in
    marked_stays a.stakes.now (block_in a.rec.now) (part_at a.part.now 0) a.locators.now (asked a.locators.now) a.replies.now
    k.1.1.0 k.1.1.1 (sym c.epoch_changed.ensures ∙ c.if-epoch_changed.true)

pub merge-requires : goal.merge-requires
merge-requires c =
    let k = c.requires in
    (k.0, ((subst (λ (n : ℕ). n < 128) (sym (as_author _ _ c.reference-block.ensures)) k.1.0.1.0, k.1.0.1.1), k.1.1))

pub returns : goal.returns
returns c =
    let a = c.args in
    c.merge.ensures (block_in a.rec.now) (sym c.epoch_changed.ensures ∙ c.if-epoch_changed.false) (sym (as_author _ _ c.reference-block.ensures))
