use native.Mathlib.Omega.{arith}
use Rattle.stakes_chain.specs.Layout.{place}
use Rattle.stakes_chain.proofs.place.Goals as goal

pub returns : goal.returns
unfolding place
returns c = omega arith
