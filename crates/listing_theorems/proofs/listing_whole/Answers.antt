use Rattle.listing_theorems.proofs.Whole.{whole}
use Rattle.listing_theorems.proofs.listing_whole.Goals as goal

pub returns : goal.returns
returns c = whole
