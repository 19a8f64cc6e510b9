-- What the code's structs and enums say, in the values and refusal numbers of document 01. Assumes nothing: these are definitions.
use Rattle.base.specs.Checks.{Answer, refused, answered}
use Rattle.feed_spec.specs.Pending as questions
use Rattle.std.specs.Prelude.{ℕ, Err, Ok, Result}
use Rattle.base.specs.declared.refusal.Refusal.{Refusal}
use Rattle.base.specs.Refusals.{refusal_number}
use Rattle.committee.specs.declared.Stake as code-stake

-- the stake and the number of voters, or 5, 10, 11, 42
unfoldable pub as_pending : Result (code-stake.Stake × ℕ) Refusal → Answer questions.Standing
as_pending (Ok (stake, voters)) = answered (record { stake = stake.0; voters = voters })
as_pending (Err n) = refused (refusal_number n)
