use borrow.Author.Tests.{eq-eqb, ne_eqb}
use Rattle.final_readings_spec.specs.Answers.{as_reading}
use Rattle.slip_read_body.specs.Step.{reading_at}
use Rattle.slip_read_call.proofs.named_reading.Goals as goal

pub returns-then-slip-eq1 : goal.returns-then-slip-eq1
unfolding as_reading reading_at
returns-then-slip-eq1 c = rw (eq-eqb _ 1 c.if-slip-eq1.true)

pub returns : goal.returns
unfolding as_reading reading_at
returns c = rw (ne_eqb _ 1 c.if-slip-eq1.false)
