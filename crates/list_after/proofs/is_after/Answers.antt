use Rattle.final_spec.specs.NextFinal.{is_after}
use Rattle.types.specs.Values.{as_maybe}
use Rattle.list_after.proofs.is_after.Goals as goal

pub returns-in_default : goal.returns-in_default
unfolding as_maybe is_after
returns-in_default c = rw c.in_default.is

pub returns : goal.returns
unfolding as_maybe is_after
returns c = rw c.in-Some.is c.locator_before.ensures
