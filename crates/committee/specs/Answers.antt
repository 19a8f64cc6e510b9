-- What the code's structs and enums say, in the values and refusal numbers of document 01. Assumes nothing: these are definitions.
use Rattle.std.specs.Prelude.{ltb}
use Rattle.base.specs.Lists.{pick}
use Rattle.base.specs.Checks.{Answer, refused, answered}
use Rattle.committee.specs.declared.Stake as code-stake
use Rattle.committee.specs.Committee.{AuthorityIndex, Stake, Committee, total_stake, known, get_stake}
use Rattle.std.specs.Prelude.{None, Some, Option}
use Rattle.std.specs.Prelude.{Err, Ok, Result}
use Rattle.base.specs.declared.refusal.Refusal.{Refusal}
use Rattle.base.specs.Refusals.{refusal_number}
use Rattle.base.specs.declared.refusal.Refusal.TheVariants.{TotalTooLarge}

-- a committee that is taken, with its total, or 1 to 4
unfoldable pub as_new_committee : Result code-stake.Stake Refusal → Answer Stake
as_new_committee (Ok t) = answered t.0
as_new_committee (Err n) = refused (refusal_number n)

abbrev pub stake_value : Stake → code-stake.Stake
stake_value n = record { 0 = n }

-- the stake of an author whom the committee knows
unfoldable pub found_stake : Committee → AuthorityIndex → Option code-stake.Stake
found_stake c a = pick (known c a) (Some (stake_value (get_stake c a))) None

-- the total of stakes, or 4 where it is over 2^63 - 1
unfoldable pub total_found : Committee → Result code-stake.Stake Refusal
total_found c = pick (ltb 9223372036854775807 (total_stake c)) (Err TotalTooLarge) (Ok (stake_value (total_stake c)))
