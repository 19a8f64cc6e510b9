use Rattle.record_spec.proofs.Claimed.{bytes_fit}
use Rattle.host_feed_bytes.proofs.Kept.{fed_kept}
use Rattle.host_feed_bytes.proofs.claims.Goals as goal

pub returns : goal.returns
returns c = record { refused_feed = λ c s t v rec n a b. fed_kept c s t v rec n (bytes_fit t a) (bytes_fit v b) }
