use Prim.Native.Nat.{◌+◌, ◌-◌, ◌/◌, ◌<◌}
use native.Mathlib.Omega.{arith}
use mathlib.Core.Path.{sym, ◌∙◌}
use Rattle.list_row_sort.specs.Rows.{Inside}
use Rattle.list_cuts.proofs.Cutting.{cut_start, cut_up, cut_down, cut_end}
use Rattle.list_cuts.proofs.cut.Goals as goal

pub loop-low-init : goal.loop-low-init
loop-low-init c = (omega arith, cut_start _ _ _ _ c.requires)

pub row_before-requires : goal.row_before-requires
unfolding Inside
row_before-requires c = let p = c.requires in
    let l = c.loop-low in
    let h : l.low + (l.high - l.low) / 2 < c.args.n = omega (arith, l.invariant.1.inside, c.loop-low-test.true) in
    record { i_in_bounds = (omega (arith, p.room, p.below), omega (arith, p.room)); i_in_bounds_2 = (p.inside _ p.below, p.inside _ h) }

pub loop-low-preserved-then-row_before : goal.loop-low-preserved-then-row_before
loop-low-preserved-then-row_before c = let p = c.requires in
    let l = c.loop-low in
    let h = c.loop-low-test.true in
    (l.invariant.0, cut_down _ _ _ _ p l.low l.high _ (sym c.row_before.ensures ∙ c.if-row_before.true) (omega arith) (omega arith) l.invariant.1)

pub loop-low-preserved : goal.loop-low-preserved
loop-low-preserved c = let p = c.requires in
    let l = c.loop-low in
    let h = c.loop-low-test.true in
    (omega (arith, l.invariant.0), cut_up _ _ _ _ p l.low l.high _ (sym c.row_before.ensures ∙ c.if-row_before.false) (omega arith) l.invariant.1)

pub returns : goal.returns
returns c = let l = c.loop-low in
    cut_end _ _ _ _ c.requires l.low l.high l.invariant.0 c.loop-low-test.false l.invariant.1
