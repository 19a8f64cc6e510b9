use mathlib.Core.Path.{refl}
use Rattle.pending_words.specs.Answers.{as_item}
use Rattle.pending_cuts.proofs.back_of.Goals as goal

pub returns : goal.returns
unfolding as_item
returns c = refl
