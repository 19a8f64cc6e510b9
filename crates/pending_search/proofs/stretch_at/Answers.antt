use mathlib.Core.Path.{◌≡◌, sym, ◌∙◌}
use mathlib.Core.Logic.{inl, inr}
use Prim.Native.Nat.{◌<◌}
use native.Mathlib.Omega.{arith}
use lib.ListN.{length, get_or}
use Rattle.pending_spec.specs.Items.{no_item}
use Rattle.pending_spec.specs.Table.{items_of}
use Rattle.pending_words.proofs.Slots.{fields, holds_ordered, holds_full}
use Rattle.pending_search.proofs.Finds.{past, gap_constant, held_constant}
use Rattle.pending_search.proofs.stretch_at.Goals as goal

pub returns-then-item_count-i : goal.returns-then-item_count-i
returns-then-item_count-i c =
    let start = c in
    let t = start.args.t.now in
    gap_constant _ _ _ _ c.search-i.ensures (holds_ordered t start.requires.0) (holds_full t start.requires.0) _ _ start.requires.1
    (omega arith) (λ h. absurd (omega (arith, h)))

pub returns-then-x-p : goal.returns-then-x-p
returns-then-x-p c =
    let start = c in
    let t = start.args.t.now in
    let x = fields _ _ c.item_at-x.ensures in
    gap_constant _ _ _ _ c.search-i.ensures (holds_ordered t start.requires.0)
    (holds_full t start.requires.0) _ _ start.requires.1 (omega arith) (λ h. inl (λ e. c.if-x-p.true (sym x.position ∙ e)))

pub returns-then-o-x : goal.returns-then-o-x
returns-then-o-x c =
    let start = c in
    let t = start.args.t.now in
    let x = fields _ _ c.item_at-x.ensures in
    let s = c.smaller.ensures in
    gap_constant _ _ _ _ c.search-i.ensures (holds_ordered t start.requires.0)
    (holds_full t start.requires.0) _ _ (s.2 _ (omega arith) start.requires.1) s.1 (λ h. inr (omega (arith, x.start, s.0)))

pub returns : goal.returns
returns c =
    let start = c in
    let t = start.args.t.now in
    let x = fields _ _ c.item_at-x.ensures in
    let s = c.smaller-2.ensures in
    let i : c.search-i.result < length (items_of t) = omega arith in
    let p : (get_or (items_of t) c.search-i.result no_item).position ≡ start.args.p =
    omega (arith, x.position) in
    held_constant _ _ _ _ c.search-i.ensures (holds_ordered t start.requires.0)
    (holds_full t start.requires.0) _ _ i p (omega (arith, x.start))
    (s.2 _ (omega (
      arith,
      x.end,
      past _ _ _ _ c.search-i.ensures
          (holds_ordered t start.requires.0) (holds_full t start.requires.0) i p,
    )) start.requires.1) s.1 (omega (arith, x.end, s.0))
