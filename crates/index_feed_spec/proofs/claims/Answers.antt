use Rattle.index_feed_spec.proofs.Claimed.{claimed}
use Rattle.index_feed_spec.proofs.claims.Goals as goal

pub returns : goal.returns
returns c = claimed
