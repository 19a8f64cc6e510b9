use Rattle.ring_owners.proofs.Examples.{evaluated}
use Rattle.ring_owners.proofs.cards.Goals as goal

pub returns : goal.returns
returns c = evaluated
