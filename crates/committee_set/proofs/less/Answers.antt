use mathlib.Core.Path.{refl}
use Rattle.committee_set.specs.AuthoritySet.{without}
use Rattle.committee_set.proofs.less.Goals as goal

pub returns : goal.returns
unfolding without
returns c = refl
