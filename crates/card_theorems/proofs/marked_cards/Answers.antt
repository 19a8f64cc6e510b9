use Rattle.card_theorems.proofs.Marked.{marked}
use Rattle.card_theorems.proofs.marked_cards.Goals as goal

pub returns : goal.returns
returns c = marked
