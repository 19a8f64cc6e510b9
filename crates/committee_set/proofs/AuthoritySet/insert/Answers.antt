use Rattle.committee_set.specs.AuthoritySet.{inserted}
use borrow.Author.Tests.{lt-ltb, le-ltb}
use Rattle.committee_set.proofs.AuthoritySet.insert.Goals as goal

pub returns-then-k-lt64 : goal.returns-then-k-lt64
unfolding inserted
returns-then-k-lt64 c = rw (lt-ltb _ _ c.if-k-lt64.true, c.mask.ensures)

pub returns-else-k-lt64 : goal.returns-else-k-lt64
unfolding inserted
returns-else-k-lt64 c = rw (le-ltb _ _ c.if-k-lt64.false, c.mask-else-k-lt64.ensures)
