-- The questions of a host about a share's payload. Assumes nothing: these are definitions.
use Rattle.std.specs.Prelude.{ℕ, ◌≡◌, Err, Ok, Result}
use Rattle.std.proofs.Math.Option.{Option, none, some}
use Rattle.base.specs.Le.{Bytes}
use Rattle.base.specs.Checks.{Answer, refused, answered}
use Rattle.base.specs.declared.refusal.Refusal.{Refusal}
use Rattle.base.specs.Refusals.{refusal_number}
use Rattle.committee.specs.Committee.{Committee}
use Rattle.record_spec.specs.Reference.{TransactionLocator}
use Rattle.types.specs.declared.TransactionLocator as locators
use Rattle.types.specs.Values.{as_locator}
use Rattle.store_spec.specs.Payload.{StoreStretch, payload_length}
use Rattle.store_payload.specs.Answers.{payload_place}
use Rattle.host_calls.specs.Calls.{committee_of}
use Rattle.host_locators.specs.Locators.{locator_of, refusal_before, asked}

-- the length of a share's payload
unfoldable pub payload_length_call : Bytes → Bytes → Bytes → Answer ℕ
payload_length_call stakes s b =
    let c : Committee = committee_of stakes in
    asked c s (payload_length c s) (locator_of b)

unfoldable pub start_of : Answer StoreStretch → Answer ℕ
start_of (answered p) = answered p.start
start_of (refused n) = refused n

-- 01: "given back as the part of the store that holds it": where in the store that part begins
unfoldable pub payload_start_call : Bytes → Bytes → Bytes → Answer ℕ
payload_start_call stakes s b =
    let c : Committee = committee_of stakes in
    start_of (asked c s (payload_place c s) (locator_of b))

-- ---- machinery for the contract of `share_of`: the locator that the bytes are, or 20 after 5 and 10

abbrev pub ShareTold : Committee → Bytes → Option TransactionLocator → Result locators.TransactionLocator Refusal → Type 0
ShareTold c s o (Ok l) = o ≡ some (as_locator l)
ShareTold c s o (Err r) = (o ≡ none) × (refusal_number r ≡ refusal_before 20 c s)
