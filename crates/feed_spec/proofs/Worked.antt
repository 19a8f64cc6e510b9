-- The examples, evaluated. Assumes nothing.
use mathlib.Core.Path.{refl}
use Rattle.feed_spec.proofs.Computing.{computing}
use Rattle.feed_spec.specs.Examples.{Examples}

pub examples : Examples
unfolding computing
examples =
    record {
      sole_owner = refl;
      votes_itself = refl;
      mixed = refl;
      room_of = refl;
      not_stored = refl;
    }
