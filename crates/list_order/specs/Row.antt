-- Machinery for the contracts of inner functions: a locator beside the best so far. Assumes nothing: these are definitions.
use Rattle.std.specs.Prelude.{Bool, not, ◌&&◌}
use Rattle.std.proofs.Math.Option.{Option}
use Rattle.base.specs.Lists.{is_none}
use Rattle.record_spec.specs.Reference.{TransactionLocator}
use Rattle.final_spec.specs.NextFinal.{is_after}

-- after the best so far: as `is_after`, but no locator comes after none
unfoldable pub is_after_best : Option TransactionLocator → TransactionLocator → Bool
is_after_best best l = not (is_none best) && is_after best l
