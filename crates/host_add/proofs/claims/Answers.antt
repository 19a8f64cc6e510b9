use Rattle.record_spec.proofs.Claimed.{bytes_fit}
use Rattle.host_add.proofs.Added.{add_kept}
use Rattle.host_add.proofs.claims.Goals as goal

pub returns : goal.returns
returns c = record { refused_add = λ c b a n h. add_kept c b a n (bytes_fit b h) }
