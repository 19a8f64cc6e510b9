use Rattle.final_readings_spec.specs.Answers.{as_reading}
use Rattle.slip_spec.specs.Slip.{reading_byte}
use borrow.Author.Rules.{rules}
use Rattle.slip_write_bytes.proofs.reading_byte.Goals as goal

pub enum_told-1 : goal.enum_told-1
enum_told-1 c = search rules

pub returns-in-Old : goal.returns-in-Old
unfolding as_reading reading_byte
returns-in-Old c = rw c.in-Old.is

pub returns-in-Withdrawing : goal.returns-in-Withdrawing
unfolding as_reading reading_byte
returns-in-Withdrawing c = rw c.in-Withdrawing.is
