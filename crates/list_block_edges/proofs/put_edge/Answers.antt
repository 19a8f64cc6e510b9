use mathlib.Core.Path.{sym, ◌∙◌}
use Rattle.types.specs.Values.{as_maybe}
use Rattle.list_row_sort.specs.Rows.{key_of}
use Rattle.list_range_rows.specs.Ranges.{new_row}
use Rattle.list_block_edges.proofs.Taking.{before_window, after_window, in_window_lem, edge_left, edge_put}
use Rattle.list_block_edges.proofs.put_edge.Goals as goal

pub returns-then-not-follows : goal.returns-then-not-follows
unfolding key_of new_row
returns-then-not-follows c = let a = c.args in
    edge_left _ _ _ _ a.edges.now a.n (before_window a.store.now (as_maybe a.last) (as_maybe a.bound) (new_row a.at a.offset a.mark)
    (sym c.follows.ensures ∙ c.if-not-follows.true))

pub returns-then-is_after_best : goal.returns-then-is_after_best
unfolding key_of new_row
returns-then-is_after_best c = let a = c.args in
    edge_left _ _ _ _ a.edges.now a.n (after_window a.store.now (as_maybe a.last) (as_maybe a.bound) (new_row a.at a.offset a.mark)
    (sym c.is_after_best.ensures ∙ c.if-is_after_best.true))

pub returns : goal.returns
unfolding key_of new_row
returns c = let o = c in
    let a = o.args in
    rw c.put_row.ensures
    (edge_put _ _ _ _ a.edges.now a.n (in_window_lem a.store.now (as_maybe a.last) (as_maybe a.bound) (new_row a.at a.offset a.mark)
    (sym c.follows.ensures ∙ c.if-not-follows.false)
    (sym c.is_after_best.ensures ∙ c.if-is_after_best.false)) o.requires.1)
