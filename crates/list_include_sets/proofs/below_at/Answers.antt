use borrow.Author.Tests.{eq-eqb, ne_eqb}
use Rattle.list_include_sets.specs.Sets.{taken}
use Rattle.list_include_sets.proofs.below_at.Goals as goal

pub returns-then-sets-k-eq1 : goal.returns-then-sets-k-eq1
unfolding taken
returns-then-sets-k-eq1 c = rw (eq-eqb _ 1 c.if-sets-k-eq1.true)

pub returns : goal.returns
unfolding taken
returns c = rw (ne_eqb _ 1 c.if-sets-k-eq1.false) c.gather.ensures
