-- What the code's answer says, in the values and refusal numbers of documents 01 and 02. Assumes nothing: these are definitions.
use Rattle.std.specs.Prelude.{ℕ, ◌≤◌, List, take}
use Rattle.base.specs.Checks.{Answer, refused, answered}
use Rattle.committee.specs.Committee.{Committee}
use Rattle.std.specs.Prelude.{Err, Ok, Result}
use Rattle.base.specs.declared.refusal.Refusal.{Refusal}
use Rattle.base.specs.Refusals.{refusal_number}

-- the number of members, or the first refusal
unfoldable pub as_load : Result ℕ Refusal → Answer ℕ
as_load (Ok n) = answered n
as_load (Err n) = refused (refusal_number n)

-- the stakes that stand in front of what was lent, or the refusal
unfoldable pub stakes_in : Result ℕ Refusal → List ℕ → Answer Committee
stakes_in (Ok n) words = answered (take n words)
stakes_in (Err n) words = refused (refusal_number n)

-- machinery for the contracts of inner functions
abbrev pub members_at_most : ℕ → Result ℕ Refusal → Type 0
members_at_most m (Ok n) = n ≤ m
members_at_most m (Err n) = 0 ≤ m
