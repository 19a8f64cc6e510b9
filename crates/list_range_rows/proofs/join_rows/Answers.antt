use native.Mathlib.Omega.{arith}
use Prim.Native.Nat.{ℕ, ◌+◌, ◌-◌, ◌≤◌, ◌<◌}
use mathlib.Core.Path.{◌≡◌, sym, subst}
use lib.ListN.{length}
use Rattle.list_row_sort.specs.Rows.{row_at, Row}
use Rattle.list_row_sort.proofs.Tables.{every_row}
use Rattle.list_range_rows.specs.Ranges.{RowsJoined}
use Rattle.list_range_rows.proofs.Passing.{row_kept, joined_start, below_start, joined_more, below_more}
use Rattle.list_range_rows.proofs.join_rows.Goals as goal

pub loop-i-init : goal.loop-i-init
loop-i-init c = let a = c.args in
    (omega arith, (joined_start a.store.now a.n a.rows.now, below_start a.store.now a.n a.rows.now))

pub join_row-m-requires : goal.join_row-m-requires
join_row-m-requires c = let o = c in
    let g = c.loop-i in
    let s = o.args.store.now in
    let own : row_at g.rows g.i ≡ row_at o.args.rows.now g.i = row_kept o.args.rows.now g.rows g.i g.i g.invariant.1.0.kept
    (omega arith) in
    let p = every_row o.args.rows.now o.args.n o.requires.proper g.i c.loop-i-test.true in record {
      m_le_i = (g.invariant.1.0.few, omega (arith, g.invariant.1.0.long, o.requires.room, c.loop-i-test.true));
      i_in_bounds = (
        subst (λ (r : Row). r.at + 48 ≤ length s) (sym own) p.inside,
        λ (h : 0 < g.m). (every_row g.rows g.m g.invariant.1.0.proper (g.m - 1) (omega arith)).inside,
      );
    }

pub loop-i-smaller : goal.loop-i-smaller
loop-i-smaller c = omega (arith, c.loop-i-test.true)

pub loop-i-preserved : goal.loop-i-preserved
loop-i-preserved c = let o = c in
    let g = c.loop-i in
    let a = o.args in
    let h = c.loop-i-test.true in
    let r = c.join_row-m.ensures in (
      omega arith,
      (
        joined_more a.store.now a.n a.rows.now o.requires g.rows _ g.m g.i _ h g.invariant.1.0 g.invariant.1.1 r,
        below_more a.store.now a.n a.rows.now o.requires g.rows _ g.m g.i _ h g.invariant.1.0 g.invariant.1.1 r,
      ),
    )

pub shape_of-rows : goal.shape_of-rows
shape_of-rows c = c.loop-i.invariant.1.0.long

pub returns : goal.returns
returns c = let a = c.args in
    let g = c.loop-i in
    let e : g.i ≡ a.n = omega (arith, c.loop-i-test.false) in
    subst (λ (i : ℕ). RowsJoined a.store.now i a.rows.now g.rows g.m) e g.invariant.1.0
