use mathlib.Core.Path.{sym}
use Rattle.base.proofs.Le.{length_le_bytes}
use Rattle.record_spec.specs.Record.{time_bytes}
use Rattle.record_reader.specs.Values.{as_time}
use Rattle.draft_parts.proofs.time_size.Goals as goal

pub returns-in-Some : goal.returns-in-Some
unfolding time_bytes as_time
returns-in-Some c = rw c.in-Some.is (sym (length_le_bytes 16 c.in-Some.field-0))

pub returns-in-None : goal.returns-in-None
unfolding time_bytes as_time
returns-in-None c = rw c.in-None.is
