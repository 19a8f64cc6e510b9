-- How the questions about the lists and their answers cross. Assumes nothing: these are definitions.
use Rattle.std.specs.Prelude.{ℕ, ◌+◌, ◌*◌, ◌%◌, ◌^◌, ◌<◌, Bool, ◌&&◌, eqb, leb, length, Err, Ok, Result}
use Rattle.std.proofs.Math.Option.{Option, none, some}
use Rattle.base.specs.Lists.{pick}
use Rattle.base.specs.Le.{Bytes}
use Rattle.base.specs.Checks.{Answer, refused, answered}
use Rattle.record_spec.specs.Reference.{TransactionLocator}
use Rattle.record_spec.specs.Record.{locator_bytes}
use Rattle.types.specs.Values.{as_maybe}
use Rattle.list_stretches_spec.specs.Bulk.{Given}
use Rattle.std.specs.declared.option.Option as code
use Rattle.types.specs.declared.TransactionLocator as locators
use Rattle.host_calls.specs.Calls.{flag}
use Rattle.host_locators.specs.Locators.{locator_of}
use Rattle.base.specs.declared.refusal.Refusal.{Refusal}
use Rattle.list_stretch_bytes.specs.declared.Stretches as stretches-answer
use Rattle.list_stretch_bytes.specs.declared.Stretches.TheVariants.{Last, More}

unfoldable pub after_locator : Option TransactionLocator → Option (Option TransactionLocator)
after_locator none = none
after_locator (some l) = some (some l)

-- 01: "after a given one, or from the start": no bytes are the start; bytes that are no locator are no place
unfoldable pub after_of : Bytes → Option (Option TransactionLocator)
after_of b = pick (eqb (length b) 0) (some none) (after_locator (locator_of b))

-- the same as the code has it
unfoldable pub as_after : Result (code.Option locators.TransactionLocator) Refusal → Option (Option TransactionLocator)
as_after (Ok m) = some (as_maybe m)
as_after (Err r) = none

-- what the question for the next locator answers, and the bytes that it was lent for it afterwards
pub record NextFinalCall : Type 0 where
  pub answer : Answer ℕ
  pub found : Bytes

-- 1 and the locator as it stands in a record, or 0 where none is left
unfoldable pub found_in : Bytes → Answer (Option TransactionLocator) → NextFinalCall
found_in out (answered (some l)) = record { answer = answered 1; found = locator_bytes l }
found_in out (answered none) = record { answer = answered 0; found = out }
found_in out (refused n) = record { answer = refused n; found = out }

-- a slice for stretches is any whole number of them, at least one
unfoldable pub whole_stretches : Bytes → Bool
whole_stretches out = leb 80 (length out) && eqb (length out % 80) 0

-- 2 · number of stretches, and 1 more where a locator of the list follows them
unfoldable pub stretches_number : Answer Given → Answer ℕ
stretches_number (answered g) = answered (2 * g.stretches + flag g.more)
stretches_number (refused n) = refused n

-- machinery for the contracts: counts that leave room for the answer's word
abbrev pub counts_fit : Result stretches-answer.Stretches Refusal → Type 0
counts_fit (Ok (Last n)) = n < 2 ^ 62
counts_fit (Ok (More n)) = n < 2 ^ 62
counts_fit (Err r) = Unit {0}
