use Rattle.std.specs.Prelude.{Ok}
use mathlib.Core.Path.{◌∙◌, ap}
use native.Mathlib.Omega.{arith}
use Rattle.list_stretch_bytes.specs.Answers.{as_stretches}
use Rattle.host_calls.specs.Calls.{encoded, flag}
use Rattle.host_final_answers.specs.Answers.{stretches_number}
use Rattle.host_final_answers.proofs.stretches_number.Goals as goal

pub overflow_mul-result : goal.overflow_mul-result
overflow_mul-result c = omega (arith, rw (c.in-Ok-Last.is ∙ ap Ok (rw c.in-Ok-Last.is at c.in-Ok-Last.field-0-is)) at c.requires)

pub overflow_mul-result-in-Ok-More : goal.overflow_mul-result-in-Ok-More
overflow_mul-result-in-Ok-More c = omega (arith, rw (c.in-Ok-More.is ∙ ap Ok (rw c.in-Ok-More.is at c.in-Ok-More.field-0-is)) at c.requires)

pub overflow_add-result : goal.overflow_add-result
overflow_add-result c = omega (arith, rw (c.in-Ok-More.is ∙ ap Ok (rw c.in-Ok-More.is at c.in-Ok-More.field-0-is)) at c.requires)

pub returns-in-Ok-Last : goal.returns-in-Ok-Last
unfolding encoded stretches_number as_stretches flag
returns-in-Ok-Last c = rw (c.in-Ok-Last.is ∙ ap Ok (rw c.in-Ok-Last.is at c.in-Ok-Last.field-0-is)) (omega arith)

pub returns-in-Ok-More : goal.returns-in-Ok-More
unfolding encoded stretches_number as_stretches flag
returns-in-Ok-More c = rw (c.in-Ok-More.is ∙ ap Ok (rw c.in-Ok-More.is at c.in-Ok-More.field-0-is))

pub returns-in-Err : goal.returns-in-Err
unfolding encoded stretches_number as_stretches
returns-in-Err c = c.refused.ensures ∙ rw c.in-Err.is
