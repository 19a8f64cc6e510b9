-- What the answers of the code stand for. Assumes nothing: these are definitions.
use Rattle.base.specs.Checks.{Answer, refused, answered}
use Rattle.ring_owners.specs.Ranked.{Ring}
use Rattle.std.specs.Prelude.{Err, Ok, Result}
use Rattle.base.specs.declared.refusal.Refusal.{Refusal}
use Rattle.base.specs.Refusals.{refusal_number}
use Rattle.committee.specs.declared.Stake as code-stake
use Rattle.committee_set.specs.declared.AuthoritySet as sets

-- the owners and their stake, or the refusal's number
unfoldable pub as_ring : Result (sets.AuthoritySet × code-stake.Stake) Refusal → Answer Ring
as_ring (Ok (owners, stake)) = answered (record { owners = owners; stake = stake.0 })
as_ring (Err n) = refused (refusal_number n)
