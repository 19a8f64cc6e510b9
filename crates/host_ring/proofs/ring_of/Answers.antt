use mathlib.Core.Path.{ap, sym, ◌∙◌}
use Rattle.base.specs.Checks.{refused}
use Rattle.ring_fewest.specs.Answers.{as_ring}
use Rattle.host_ring.proofs.Rings.{ring_sized, ring_other}
use Rattle.host_ring.proofs.ring_of.Goals as goal

pub returns-then-table-ne-TABLE_BYTES : goal.returns-then-table-ne-TABLE_BYTES
unfolding as_ring
returns-then-table-ne-TABLE_BYTES c =
    let o = c.args in
    ap refused c.refusal_before.ensures ∙ sym (ring_other o.stakes.now o.store.now o.table.now _ _ _ c.if-table-ne-TABLE_BYTES.true)

pub returns : goal.returns
returns c =
    let o = c.args in
    c.ring_in.ensures ∙ rw c.words_of.ensures
    (sym (ring_sized o.stakes.now o.store.now o.table.now _ _ _ c.if-table-ne-TABLE_BYTES.false))
