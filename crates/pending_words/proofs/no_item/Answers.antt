use mathlib.Core.Path.{refl}
use Rattle.pending_words.specs.Answers.{as_item}
use Rattle.pending_words.proofs.no_item.Goals as goal

pub returns : goal.returns
unfolding as_item
returns c = refl
