use mathlib.Core.Path.{refl}
use Rattle.list_ancestry.specs.Heard.{with_set}
use Rattle.list_ancestry.proofs.note_set.Goals as goal

pub returns : goal.returns
unfolding with_set
returns c = refl
