use mathlib.Core.Path.{refl}
use Rattle.record_spec.specs.Reference.{new_range}
use Rattle.types.specs.Values.{as_range}
use Rattle.types.proofs.TransactionLocatorRange.new.Goals as goal

pub returns : goal.returns
unfolding as_range new_range
returns c = refl
