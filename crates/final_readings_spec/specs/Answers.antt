-- What the code's enums stand for. Assumes nothing: these are definitions.
use Rattle.std.specs.Prelude.{Bool, true, false}
use Rattle.final_readings_spec.specs.declared.Reading.{Reading as AskedReading}
use Rattle.final_readings_spec.specs.declared.Reading.TheVariants.{Old, Withdrawing}
use Rattle.final_readings_spec.specs.declared.Speech.{Speech}
use Rattle.final_readings_spec.specs.declared.Speech.TheVariants.{Votes, Rejects}
use Rattle.final_readings_spec.specs.Readings.{Reading, old, withdrawing}

-- 02: "This second reading is chosen by calls of its own ..; the Rust's stays"
unfoldable pub as_reading : AskedReading → Reading
as_reading Old = old
as_reading Withdrawing = withdrawing

-- whether rejects are asked for, and not votes
unfoldable pub is_rejecting : Speech → Bool
is_rejecting Votes = false
is_rejecting Rejects = true
