use mathlib.Core.Path.{◌≡◌, refl, sym, subst, ◌∙◌}
use mathlib.Core.Bool.{true, false}
use mathlib.Core.Option.{Option}
use native.Mathlib.Omega.{arith}
use Rattle.record_spec.specs.Reference.{TransactionLocator}
use Rattle.types.specs.Values.{as_locator, as_maybe}
use Rattle.final_spec.specs.NextFinal.{is_after}
use Rattle.list_row_sort.specs.Rows.{row_at, key_of}
use Rattle.list_row_sort.proofs.Tables.{every_row}
use Rattle.list_range_rows.specs.Ranges.{new_row}
use Rattle.list_edge_rows.specs.Edges.{start_edge, end_edge}
use Rattle.list_sweep_start.proofs.Covering.{none_covers, later_row, earlier_row, covering_row}
use Rattle.list_sweep_start.proofs.any_covers.Goals as goal

pub loop-i-init : goal.loop-i-init
loop-i-init c = (omega arith, λ l e. none_covers _ _ l)

pub bounds-rows-from : goal.bounds-rows-from
bounds-rows-from c = omega (arith, c.requires.room, c.loop-i-test.true)

pub bounds-rows-from-in-loop-i : goal.bounds-rows-from-in-loop-i
bounds-rows-from-in-loop-i c = omega (arith, c.requires.room, c.loop-i-test.true)

pub follows-starts-requires : goal.follows-starts-requires
unfolding row_at
follows-starts-requires c = let o = c in
    let h = (every_row o.args.rows.now o.args.m o.requires.proper c.loop-i.i c.loop-i-test.true).inside in
    h

pub bounds-rows-from-in-loop-i-2 : goal.bounds-rows-from-in-loop-i-2
bounds-rows-from-in-loop-i-2 c = omega (
  arith,
  c.requires.room,
  c.loop-i-test.true,
)

pub follows-ends-requires : goal.follows-ends-requires
unfolding row_at
follows-ends-requires c = let o = c in
    let h = (every_row o.args.rows.now o.args.m o.requires.proper c.loop-i.i
    c.loop-i-test.true).inside in
    h

pub loop-i-smaller-then-starts : goal.loop-i-smaller-then-starts
loop-i-smaller-then-starts c = omega arith

pub loop-i-preserved-then-starts : goal.loop-i-preserved-then-starts
unfolding is_after key_of start_edge new_row row_at
loop-i-preserved-then-starts c = let o = c in (
  omega arith,
  λ l e. later_row o.args.store.now o.args.rows.now l c.loop-i.i
      (c.loop-i.invariant.1 l e)
      (subst (λ (x : Option TransactionLocator). is_after x (key_of o.args.store.now
      (start_edge 0 (row_at o.args.rows.now c.loop-i.i))) ≡ true) e
      (sym c.follows-starts.ensures ∙ c.if-starts.true)),
)

pub returns-then-ends : goal.returns-then-ends
unfolding is_after key_of start_edge end_edge new_row row_at as_maybe
returns-then-ends c = let o = c in
    sym (covering_row o.args.store.now o.args.rows.now (as_locator o.args.locator) o.args.m
    c.loop-i.i
    c.loop-i-test.true
    (sym c.follows-starts.ensures ∙ c.if-starts.false) (sym c.follows-ends.ensures ∙ c.if-ends.true))

pub loop-i-smaller : goal.loop-i-smaller
loop-i-smaller c = omega arith

pub loop-i-preserved : goal.loop-i-preserved
unfolding is_after key_of end_edge new_row row_at
loop-i-preserved c = let o = c in (
  omega arith,
  λ l e. earlier_row o.args.store.now o.args.rows.now l c.loop-i.i
      (c.loop-i.invariant.1 l e)
      (subst (λ (x : Option TransactionLocator). is_after x (key_of o.args.store.now
      (end_edge 0 (row_at o.args.rows.now c.loop-i.i))) ≡ false) e
      (sym c.follows-ends.ensures ∙ c.if-ends.false)),
)

pub returns : goal.returns
unfolding as_maybe
returns c = let o = c in
    let e : c.loop-i.i ≡ o.args.m = omega (arith, c.loop-i-test.false, c.loop-i.invariant.0) in
    sym (rw e at (c.loop-i.invariant.1 (as_locator o.args.locator) refl))
