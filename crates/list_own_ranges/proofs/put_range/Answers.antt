use mathlib.Core.Path.{sym, ◌∙◌}
use Rattle.record_spec.specs.Reference.{new_range}
use Rattle.types.specs.Values.{as_range, as_maybe}
use Rattle.list_block_spans.specs.Answers.{voted_by}
use Rattle.list_own_ranges.proofs.Rows.{none_put, far_put, range_put}
use Rattle.list_own_ranges.proofs.put_range.Goals as goal

pub returns-in_default : goal.returns-in_default
unfolding voted_by
returns-in_default c = let a = c.args in
    rw c.in_default.is (none_put (as_maybe a.last) (as_maybe a.bound) a.rows.now a.n a.at)

pub returns-then-not-in_reach : goal.returns-then-not-in_reach
unfolding voted_by
returns-then-not-in_reach c = let a = c.args in
    rw c.in-Some.is (far_put (as_maybe a.last) (as_maybe a.bound) a.rows.now a.n a.at
    (as_range c.in-Some.range) (sym c.in_reach.ensures ∙ c.if-not-in_reach.true))

pub returns : goal.returns
unfolding voted_by as_range new_range
returns c = let a = c.args in
    rw (c.put_row.ensures, c.in-Some.is)
    (range_put (as_maybe a.last) (as_maybe a.bound) a.rows.now a.n a.at
    (as_range c.in-Some.range)
    (sym c.in_reach.ensures ∙ c.if-not-in_reach.false)
    c.requires)
