-- What the code's answers say, in the values and refusal numbers of document 01. Assumes nothing: these are definitions.
use Rattle.std.proofs.Math.Option.{Option}
use Rattle.base.specs.Checks.{Answer, refused, answered}
use Rattle.record_spec.specs.Reference.{TransactionLocator}
use Rattle.types.specs.Values.{as_maybe}
use Rattle.std.specs.Prelude.{Err, Ok, Result}
use Rattle.base.specs.declared.refusal.Refusal.{Refusal}
use Rattle.base.specs.Refusals.{refusal_number}
use Rattle.std.specs.declared.option.Option as code
use Rattle.types.specs.declared.TransactionLocator as locators

-- 01: "the least final locator after a given one, or from the start, or none"; or 5, 10
unfoldable pub as_next_final : Result (code.Option locators.TransactionLocator) Refusal → Answer (Option TransactionLocator)
as_next_final (Ok m) = answered (as_maybe m)
as_next_final (Err n) = refused (refusal_number n)
