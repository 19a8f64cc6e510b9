use Rattle.host_pending_bytes.proofs.Standings.{question_fits}
use Rattle.host_pending_bytes.proofs.claims.Goals as goal

pub returns : goal.returns
returns c = record { pending_stake = question_fits }
