-- What the code's answer says. Assumes nothing: these are definitions.
use Rattle.std.proofs.Math.Option.{Option, none, some}
use Rattle.record_spec.specs.Reference.{TransactionLocator}
use Rattle.types.specs.declared.TransactionLocator.{TransactionLocator as Located}
use Rattle.types.specs.Values.{as_locator}
use Rattle.std.specs.Prelude.{Some, None}
use Rattle.std.specs.declared.option.Option as code

-- the change that is needed, if any
unfoldable pub as_needed : code.Option Located → Option TransactionLocator
as_needed None = none
as_needed (Some l) = some (as_locator l)
