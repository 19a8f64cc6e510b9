use Rattle.committee_set.specs.AuthoritySet.{united}
use mathlib.Core.Path.{refl}
use Rattle.committee_set.proofs.union.Goals as goal

pub returns : goal.returns
unfolding united
returns c = refl
