use mathlib.Core.Path.{◌∙◌}
use Rattle.pending_words.proofs.Slots.{laid_holding, item_fits}
use Rattle.pending_words.proofs.item_at.Goals as goal

pub read_item-requires : goal.read_item-requires
read_item-requires c = item_fits _ _ c.requires.0 c.requires.1

pub returns : goal.returns
returns c = c.read_item.ensures ∙ (laid_holding _ c.requires.0).items _
