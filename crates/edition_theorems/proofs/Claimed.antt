-- The claims about times and editions hold. Assumes nothing.
use Rattle.edition_theorems.specs.Claims.{Claims}
use Rattle.edition_theorems.proofs.Accepting.{accepting, records_apart}
use Rattle.edition_theorems.proofs.Engine.{same_counts}

pub claimed : Claims
claimed = record { accepting = accepting; apart = records_apart; ignores = same_counts }
