-- What the code's enum says, in what a vote is told and the refusal numbers of document 01. Assumes nothing: these are definitions.
use Rattle.base.specs.Checks.{Answer, refused, answered}
use Rattle.committee_vote_answer.specs.VoteAnswer.{Told, repeated_below, repeated_with, new_below, new_with}
use Rattle.std.specs.Prelude.{Err, Ok, Result}
use Rattle.base.specs.declared.refusal.Refusal.{Refusal}
use Rattle.base.specs.Refusals.{refusal_number}
use Rattle.committee_vote_answer.specs.declared.Vote.{Vote}
use Rattle.committee_vote_answer.specs.declared.Vote.TheVariants.{RepeatedBelow, RepeatedWith, NewBelow, NewWith}

-- one of the four, or 5, 6, 21
unfoldable pub as_add_answer : Result Vote Refusal → Answer Told
as_add_answer (Ok RepeatedBelow) = answered repeated_below
as_add_answer (Ok RepeatedWith) = answered repeated_with
as_add_answer (Ok NewBelow) = answered new_below
as_add_answer (Ok (NewWith crossed)) = answered (new_with crossed)
as_add_answer (Err n) = refused (refusal_number n)
