use mathlib.Core.Path.{sym, ◌∙◌}
use Rattle.list_walk.proofs.certifies_at.Goals as goal

pub returns-then-epoch_changed_at : goal.returns-then-epoch_changed_at
returns-then-epoch_changed_at c = rw (sym c.epoch_changed_at.ensures ∙ c.if-epoch_changed_at.true)

pub returns : goal.returns
returns c = rw (sym c.epoch_changed_at.ensures ∙ c.if-epoch_changed_at.false)
