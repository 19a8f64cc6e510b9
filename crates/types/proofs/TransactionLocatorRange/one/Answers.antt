use mathlib.Core.Path.{refl}
use Rattle.record_spec.specs.Reference.{locator, one_range}
use Rattle.types.specs.Values.{as_range, as_locator}
use Rattle.types.proofs.TransactionLocatorRange.one.Goals as goal

pub returns : goal.returns
unfolding as_range as_locator locator one_range
returns c = refl
