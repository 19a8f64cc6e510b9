-- What the code's answers say, in the values and refusal numbers of document 01. Assumes nothing: these are definitions.
use Rattle.std.specs.Prelude.{true, false, Err, Ok, Result}
use Rattle.base.specs.Checks.{Answer, refused, answered}
use Rattle.final_spec.specs.Finality.{Finality}
use Rattle.base.specs.declared.refusal.Refusal.{Refusal}
use Rattle.base.specs.Refusals.{refusal_number}
use Rattle.final_question.specs.declared.FinalOrNot.{FinalOrNot}
use Rattle.final_question.specs.declared.FinalOrNot.TheVariants.{Final, NotFinal}

-- 01: "final or not, in both cases with the number of certifying blocks"; or 5, 10, 40
unfoldable pub as_finality : Result FinalOrNot Refusal → Answer Finality
as_finality (Ok (Final n)) = answered (record { final = true; certifying = n })
as_finality (Ok (NotFinal n)) = answered (record { final = false; certifying = n })
as_finality (Err n) = refused (refusal_number n)
