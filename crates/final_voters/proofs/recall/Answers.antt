use mathlib.Core.Path.{refl}
use Rattle.final_voters.specs.Walk.{remembered}
use Rattle.final_voters.proofs.recall.Goals as goal

pub returns : goal.returns
unfolding remembered
returns c = refl
