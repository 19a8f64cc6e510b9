use mathlib.Core.Path.{refl}
use Rattle.slip_read_rejecters.specs.Rejecting.{set_at}
use Rattle.slip_read_rejecters.proofs.set_at.Goals as goal

pub returns : goal.returns
unfolding set_at
returns c = refl
