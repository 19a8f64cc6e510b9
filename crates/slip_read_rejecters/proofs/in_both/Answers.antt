use mathlib.Core.Path.{sym, ◌∙◌}
use Rattle.slip_read_rejecters.proofs.in_both.Goals as goal

pub returns-then-not-contains : goal.returns-then-not-contains
returns-then-not-contains c = rw (sym c.contains.ensures ∙ c.if-not-contains.true)

pub returns : goal.returns
returns c = rw (sym c.contains.ensures ∙ c.if-not-contains.false) c.contains-2.ensures
