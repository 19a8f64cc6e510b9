use mathlib.Core.Path.{refl}
use Rattle.pending_words.specs.Answers.{as_item}
use Rattle.pending_spec.specs.Table.{item_from}
use Rattle.pending_words.proofs.read_item.Goals as goal

pub returns : goal.returns
unfolding as_item item_from
returns c = refl
