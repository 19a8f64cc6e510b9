use mathlib.Core.Path.{sym, ◌∙◌}
use mathlib.Core.Logic.{inl, inr}
use native.Mathlib.Omega.{arith}
use Rattle.pending_words.proofs.Slots.{fields, holds_ordered, holds_full}
use Rattle.pending_search.proofs.Finds.{not_held, held_here}
use Rattle.pending_search.proofs.holding.Goals as goal

pub returns-then-item_count-i : goal.returns-then-item_count-i
returns-then-item_count-i c =
    let start = c in
    let t = start.args.t.now in
    not_held _ _ _ _ c.search-i.ensures (holds_ordered t start.requires) (holds_full t start.requires) _ (omega arith)
    (λ h. absurd (omega (arith, h)))

pub returns-then-x-p : goal.returns-then-x-p
returns-then-x-p c =
    let start = c in
    let t = start.args.t.now in
    let x = fields _ _ c.item_at-x.ensures in
    not_held _ _ _ _ c.search-i.ensures (holds_ordered t start.requires) (holds_full t start.requires) _
    (omega arith) (λ h. inl (λ e. c.if-x-p.true (sym x.position ∙ e)))

pub returns-then-o-x : goal.returns-then-o-x
returns-then-o-x c =
    let start = c in
    let t = start.args.t.now in
    let x = fields _ _ c.item_at-x.ensures in
    not_held _ _ _ _ c.search-i.ensures (holds_ordered t start.requires)
    (holds_full t start.requires) _ (omega arith) (λ h. inr (omega (arith, x.start)))

pub returns : goal.returns
returns c =
    let start = c in
    let t = start.args.t.now in
    let x = fields _ _ c.item_at-x.ensures in
    held_here _ _ _ _ c.search-i.ensures (holds_ordered t start.requires)
    (holds_full t start.requires) (omega arith) (omega (arith, x.position)) (omega (arith, x.start))
