use native.Mathlib.Omega.{arith}
use Rattle.pending_cuts.proofs.Cuts.{length_absent, length_present}
use Rattle.pending_cuts.proofs.cuts_at.Goals as goal

pub returns-in_default : goal.returns-in_default
returns-in_default c =
    (length_absent _ c.requires _ _ _ c.inside.ensures c.in_default.is, omega arith)

pub returns : goal.returns
returns c =
    (length_present _ c.requires _ _ _ c.inside.ensures _ c.in-Some.is, omega arith)
