use mathlib.Core.Path.{sym, ◌∙◌}
use native.Mathlib.Omega.{arith}
use Rattle.base.proofs.Narrowed.{narrowed_start}
use Rattle.pending_words.proofs.Slots.{holds_ordered, holds_full}
use Rattle.pending_search.proofs.Halves.{halved_up, halved_down, halved_end}
use Rattle.pending_search.proofs.search.Goals as goal

pub loop-low-init : goal.loop-low-init
loop-low-init c = rw c.item_count-high.ensures (narrowed_start _ _ _)

pub item_at-requires : goal.item_at-requires
item_at-requires c = (c.requires.laid, omega (arith, c.loop-low.invariant.order, c.loop-low.invariant.inside))

pub loop-low-preserved-then-ends_before : goal.loop-low-preserved-then-ends_before
loop-low-preserved-then-ends_before c =
    let start = c in
    let t = start.args.t.now in
    halved_up _ _ _ (holds_ordered t start.requires) (holds_full t start.requires) _ _ _ c.loop-low.invariant (omega arith)
    (rw (← c.item_at.ensures) (sym c.ends_before.ensures ∙ c.if-ends_before.true))

pub loop-low-preserved : goal.loop-low-preserved
loop-low-preserved c =
    let start = c in
    let t = start.args.t.now in
    halved_down _ _ _ (holds_ordered t start.requires) (holds_full t start.requires) _ _ _ c.loop-low.invariant (omega arith)
    (omega arith) (rw (← c.item_at.ensures) (sym c.ends_before.ensures ∙ c.if-ends_before.false))

pub returns : goal.returns
returns c = halved_end _ _ _ _ _ c.loop-low.invariant (omega arith)
