-- The examples, evaluated. Assumes nothing.
use mathlib.Core.Path.{refl}
use Rattle.final_readings_spec.proofs.Computing.{computing}
use Rattle.final_readings_spec.specs.Examples.{Examples}

pub examples : Examples
unfolding computing
examples =
    record {
      not_known = refl;
      own_block = refl;
      own_block_old = refl;
      own_certifies = refl;
      its_first = refl;
      above_both = refl;
      voted_again = refl;
      share_taken = refl;
      all_old = refl;
      but_one = refl;
      after_reject = refl;
      edges_of = refl;
    }
