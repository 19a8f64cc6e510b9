use borrow.Author.Rules.{rules}
use Rattle.final_readings_spec.specs.Answers.{as_reading}
use Rattle.list_readings_spec.specs.Answers.{is_ordinary}
use Rattle.list_bulk.proofs.final_stretches_withdrawing.Goals as goal

pub returns : goal.returns
unfolding is_ordinary as_reading
returns c = search rules
