use mathlib.Core.Path.{subst}
use Rattle.base.specs.Lists.{is_none, holds}
use Rattle.slip_read_verdicts.specs.Verdict.{verdict}
use Rattle.slip_read_paths.specs.Walk.{InPlace}
use Rattle.slip_read_paths.proofs.Walks.{led_block, led_nowhere, led_missing, from_block, from_none, from_somewhere}
use Rattle.slip_read_certifier.specs.Verdict.{own_verdict}
use Rattle.slip_read_certifier.proofs.own_verdict.Goals as goal

pub epoch_changed_at-requires : goal.epoch_changed_at-requires
unfolding InPlace
epoch_changed_at-requires c = (
  c.requires.0.sorted,
  subst
      (InPlace c.args.order.now) c.in-To.is
      c.requires.1,
)

pub returns-then-epoch_changed_at : goal.returns-then-epoch_changed_at
unfolding own_verdict verdict is_none holds
returns-then-epoch_changed_at c = λ o h. rw (
  from_block o _ (led_block _ _ _ _ _ c.in-To.is h).1,
  ← c.epoch_changed_at.ensures,
  c.if-epoch_changed_at.true,
)

pub returns-else-epoch_changed_at : goal.returns-else-epoch_changed_at
unfolding own_verdict verdict is_none holds
returns-else-epoch_changed_at c = λ o h. rw (
  from_block o _ (led_block _ _ _ _ _ c.in-To.is h).1,
  ← c.epoch_changed_at.ensures,
  c.if-epoch_changed_at.false,
)

pub returns-in-Nowhere : goal.returns-in-Nowhere
returns-in-Nowhere c = λ o h. absurd (from_somewhere o (led_nowhere _ _ _ _ c.in-Nowhere.is h))

pub returns-in-NotGiven : goal.returns-in-NotGiven
unfolding own_verdict verdict is_none
returns-in-NotGiven c = λ o h. rw (from_none o (led_missing _ _ _ _ c.in-NotGiven.is h))
