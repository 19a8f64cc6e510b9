use Rattle.std.specs.Prelude.{Ok}
use mathlib.Core.Path.{sym, ◌∙◌, ap}
use lib.Seq.{length-take-le}
use native.Mathlib.Omega.{arith}
use Rattle.final_question.specs.Answers.{as_finality}
use Rattle.host_finality.specs.Finality.{finality_number, finality_call}
use Rattle.host_calls.specs.Calls.{encoded}
use Rattle.host_finality.proofs.finality_call.Goals as goal

pub slice_bounds-finality_of-end : goal.slice_bounds-finality_of-end
slice_bounds-finality_of-end c = sym (length-take-le c.stakes_of-n.result c.stakes_of-n.new.stakes
    (omega (arith, c.stakes_of-n.auto.stakes, c.stakes_of-n.ensures.0)))

pub overflow_mul-result : goal.overflow_mul-result
overflow_mul-result c = omega (arith, rw (c.in-Ok-Final.is ∙ ap Ok c.in-Ok-Final.field-0-is) at c.finality_of.ensures.bounded)

pub overflow_add-result : goal.overflow_add-result
overflow_add-result c = omega (arith, rw (c.in-Ok-Final.is ∙ ap Ok c.in-Ok-Final.field-0-is) at c.finality_of.ensures.bounded)

pub overflow_mul-result-in-Ok-NotFinal : goal.overflow_mul-result-in-Ok-NotFinal
overflow_mul-result-in-Ok-NotFinal c = omega (arith, rw (c.in-Ok-NotFinal.is ∙ ap Ok c.in-Ok-NotFinal.field-0-is) at c.finality_of.ensures.bounded)

pub returns-in-Ok-Final : goal.returns-in-Ok-Final
unfolding encoded finality_call finality_number as_finality
returns-in-Ok-Final c = record {
  value = rw (
    ← c.stakes_of-n.ensures.1,
    ← c.finality_of.ensures.asked.0,
    c.in-Ok-Final.is ∙ ap Ok c.in-Ok-Final.field-0-is,
  );
  positions_after = rw
      (← c.stakes_of-n.ensures.1)
      c.finality_of.ensures.asked.1;
}

pub returns-in-Ok-NotFinal : goal.returns-in-Ok-NotFinal
unfolding encoded finality_call finality_number as_finality
returns-in-Ok-NotFinal c = record {
  value = rw (
    ← c.stakes_of-n.ensures.1,
    ← c.finality_of.ensures.asked.0,
    c.in-Ok-NotFinal.is ∙ ap Ok c.in-Ok-NotFinal.field-0-is,
  ) (omega arith);
  positions_after = rw
      (← c.stakes_of-n.ensures.1)
      c.finality_of.ensures.asked.1;
}

pub returns-in-Err : goal.returns-in-Err
unfolding encoded finality_call finality_number as_finality
returns-in-Err c = record {
  value = c.refused.ensures ∙ rw (
    ← c.stakes_of-n.ensures.1,
    ← c.finality_of.ensures.asked.0,
    c.in-Err.is,
  );
  positions_after = rw
      (← c.stakes_of-n.ensures.1)
      c.finality_of.ensures.asked.1;
}
