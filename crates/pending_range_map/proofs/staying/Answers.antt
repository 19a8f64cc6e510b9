use mathlib.Core.Path.{sym, ◌∙◌}
use native.Mathlib.Omega.{arith}
use Rattle.pending_spec.specs.Items.{stays}
use Rattle.pending_words.specs.Answers.{as_item}
use Rattle.pending_range_map.proofs.staying.Goals as goal

pub returns-then-not-item_within : goal.returns-then-not-item_within
unfolding stays
returns-then-not-item_within c = (rw (sym c.item_within.ensures ∙ c.if-not-item_within.true), omega arith)

pub returns-then-is_quorum : goal.returns-then-is_quorum
unfolding stays as_item
returns-then-is_quorum c = (
  rw (
    sym c.item_within.ensures ∙ c.if-not-item_within.false,
    sym
        c.is_quorum.ensures ∙ c.if-is_quorum.true,
  ),
  omega arith,
)

pub returns : goal.returns
unfolding stays as_item
returns c = (
  rw (
    sym c.item_within.ensures ∙ c.if-not-item_within.false,
    sym
        c.is_quorum.ensures ∙ c.if-is_quorum.false,
  ),
  omega arith,
)
