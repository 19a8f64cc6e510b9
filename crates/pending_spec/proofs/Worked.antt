-- The examples, evaluated. Assumes nothing.
use mathlib.Core.Path.{refl}
use Rattle.pending_spec.proofs.Computing.{computing}
use Rattle.pending_spec.specs.Examples.{Examples}

pub examples : Examples
unfolding computing
examples =
    record {
      empty_uncut = refl;
      again = refl;
      leaves = refl;
      words = refl;
      read_back = refl;
    }
