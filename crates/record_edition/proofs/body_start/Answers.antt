use native.Mathlib.Omega.{arith}
use Rattle.record_edition.proofs.Editions.{body_timed, body_old}
use Rattle.record_edition.proofs.body_start.Goals as goal

pub returns-then-rec-eq2 : goal.returns-then-rec-eq2
returns-then-rec-eq2 c = body_timed c.args.rec.now (omega arith)

pub returns : goal.returns
returns c = body_old c.args.rec.now (λ h. omega (arith, h))
