use native.Mathlib.Omega.{arith}
use Prim.Native.Nat.{◌<◌}
use mathlib.Core.Path.{sym, ◌∙◌}
use Rattle.list_row_sort.specs.Rows.{row_at, key_of}
use Rattle.list_range_rows.specs.Ranges.{new_row, ends_before}
use Rattle.list_range_rows.proofs.Tables.{first_joined, more_joined, wider_joined, same_joined}
use Rattle.list_range_rows.proofs.join_row.Goals as goal

pub returns-then-m-eq0 : goal.returns-then-m-eq0
unfolding row_at new_row
returns-then-m-eq0 c = let o = c in
    rw c.put_row.ensures (first_joined o.args.store.now o.args.rows.now o.args.m o.args.i o.requires.m_le_i.0 o.requires.m_le_i.1
    (omega arith))

pub key_before-requires : goal.key_before-requires
unfolding row_at
key_before-requires c = let p = c.requires in
    let h : 0 < c.args.m = omega arith in
    (p.i_in_bounds.1 h, p.i_in_bounds.0)

pub returns-then-key_before : goal.returns-then-key_before
unfolding row_at new_row ends_before key_of
returns-then-key_before c = let o = c in
    rw c.put_row-then-key_before.ensures (more_joined o.args.store.now o.args.rows.now o.args.m o.args.i o.requires.m_le_i.0 o.requires.m_le_i.1
    (omega arith) (sym c.key_before.ensures ∙ c.if-key_before.true))

pub returns-then-last_end-end : goal.returns-then-last_end-end
unfolding row_at new_row ends_before key_of
returns-then-last_end-end c = let o = c in
    rw c.put_row-then-last_end-end.ensures (wider_joined o.args.store.now o.args.rows.now o.args.m o.args.i o.requires.m_le_i.0 o.requires.m_le_i.1
    (omega arith) (sym c.key_before.ensures ∙ c.if-key_before.false)
    c.if-last_end-end.true)

pub returns : goal.returns
unfolding row_at new_row ends_before key_of
returns c = let o = c in
    same_joined o.args.store.now o.args.rows.now o.args.m o.args.i o.requires.m_le_i.0 o.requires.m_le_i.1 (omega arith)
    (sym c.key_before.ensures ∙ c.if-key_before.false) c.if-last_end-end.false
