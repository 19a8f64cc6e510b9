-- The examples, evaluated. Assumes nothing.
use mathlib.Core.Path.{refl}
use Rattle.list_readings_spec.proofs.Computing.{computing}
use Rattle.list_readings_spec.specs.Examples.{Examples}

pub examples : Examples
unfolding computing
examples = record { withdrawn = refl; in_bulk_lem = refl; in_bulk_old = refl; asked = refl; none_stored = refl; taken = refl; kept = refl }
