use mathlib.Core.Path.{refl}
use native.Mathlib.Omega.{arith}
use lib.ListN.{length-set}
use Rattle.final_voters.specs.Walk.{noted}
use Rattle.final_voters.proofs.remember.Goals as goal

pub bounds-memo-k-2 : goal.bounds-memo-k-2
bounds-memo-k-2 c = simp length-set (omega arith)

pub returns : goal.returns
unfolding noted
returns c = refl
