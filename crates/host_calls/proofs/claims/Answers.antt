use Rattle.host_calls.proofs.Calls.{encoded_answer}
use Rattle.host_calls.proofs.claims.Goals as goal

pub returns : goal.returns
returns c = record { told_apart = encoded_answer }
