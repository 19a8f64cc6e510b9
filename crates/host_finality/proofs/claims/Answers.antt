use Rattle.record_spec.proofs.Claimed.{bytes_fit}
use Rattle.host_finality.proofs.Finals.{refused_kept}
use Rattle.host_finality.proofs.claims.Goals as goal

pub returns : goal.returns
returns c = record { refused_finality = λ reading c s ps l n b. refused_kept reading c s ps l n (bytes_fit ps b) }
