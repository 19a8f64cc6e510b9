-- What the code's enums say, in the values and refusal numbers of document 01. Assumes nothing: these are definitions.
use Rattle.std.specs.Prelude.{ℕ, ◌+◌, Bool, true, leb}
use Rattle.std.proofs.Math.Option.{Option, none, some, get_or}
use Rattle.base.specs.Le.{Bytes}
use Rattle.base.specs.Checks.{Answer, refused, answered, checked}
use Rattle.committee.specs.Committee.{Committee}
use Rattle.record_spec.specs.Reference.{TransactionLocator}
use Rattle.record_statement.specs.declared.BaseStatement.{BaseStatement}
use Rattle.record_statement.specs.declared.BaseStatement.TheVariants.{Share, Accept, Reject, RejectFor, VoteRange}
use Rattle.store_spec.specs.Payload.{StoreStretch, payload_at, payload_checks}
use Rattle.std.specs.Prelude.{Some, None, Err, Ok, Result}
use Rattle.std.specs.declared.option.Option as code
use Rattle.base.specs.declared.refusal.Refusal.{Refusal}
use Rattle.base.specs.Refusals.{refusal_number}

-- a payload's length, or 5, 10, 41
unfoldable pub as_payload_length : Result ℕ Refusal → Answer ℕ
as_payload_length (Ok n) = answered n
as_payload_length (Err k) = refused (refusal_number k)

-- ---- machinery for the contracts of inner functions

-- the payload of a statement that is a share
unfoldable pub shared_by : BaseStatement → code.Option (ℕ × ℕ)
shared_by (Share start len) = Some (start, len)
shared_by (Accept l) = None
shared_by (Reject l) = None
shared_by (RejectFor l other) = None
shared_by (VoteRange r) = None

-- where a record has a share's payload
unfoldable pub as_share : code.Option (ℕ × ℕ) → Option StoreStretch
as_share (Some (start, count)) = some (record { start = start; count = count })
as_share None = none

-- it lies in so many bytes
unfoldable pub share_within : ℕ → code.Option (ℕ × ℕ) → Bool
share_within n (Some (start, count)) = leb (start + count) n
share_within n None = true

-- where the store has it, or 5, 10, 41
unfoldable pub as_place : Result (ℕ × ℕ) Refusal → Answer StoreStretch
as_place (Ok (start, count)) = answered (record { start = start; count = count })
as_place (Err k) = refused (refusal_number k)

unfoldable pub place_within : ℕ → Result (ℕ × ℕ) Refusal → Bool
place_within n (Ok (start, count)) = leb (start + count) n
place_within n (Err k) = true

unfoldable pub payload_place : Committee → Bytes → TransactionLocator → Answer StoreStretch
payload_place c s l = checked (payload_checks c s l) (get_or (payload_at s l) (record { start = 0; count = 0 }))
