use mathlib.Core.Path.{ap, ◌∙◌}
use Rattle.std.specs.Prelude.{Ok}
use Rattle.list_stretch_bytes.specs.Answers.{as_stretches}
use Rattle.listing_final_steps.specs.Steps.{given_in, given_by}
use Rattle.listing_final_steps.proofs.told.Goals as goal

pub returns-in-Ok-Last : goal.returns-in-Ok-Last
unfolding as_stretches given_in given_by
returns-in-Ok-Last c = rw (c.in-Ok-Last.is ∙ ap Ok (rw c.in-Ok-Last.is at c.in-Ok-Last.field-0-is))

pub returns-in-Ok-More : goal.returns-in-Ok-More
unfolding as_stretches given_in given_by
returns-in-Ok-More c = rw (c.in-Ok-More.is ∙ ap Ok (rw c.in-Ok-More.is at c.in-Ok-More.field-0-is))

pub returns-in-Err : goal.returns-in-Err
unfolding as_stretches given_in given_by
returns-in-Err c = rw c.in-Err.is
