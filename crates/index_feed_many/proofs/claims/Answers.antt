use Rattle.index_feed_many.proofs.Claimed.{afresh}
use Rattle.index_feed_many.proofs.claims.Goals as goal

pub returns : goal.returns
returns c = record { afresh = afresh }
