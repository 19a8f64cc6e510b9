-- The exclusions, evaluated. Assumes nothing.
use mathlib.Core.Path.{refl}
use Rattle.mission_theorems.proofs.Computing.{computing}
use Rattle.course_theorems.specs.Exclusions.{Exclusions}

pub exclusions : Exclusions
unfolding computing
exclusions =
    record {
      sole_final = refl;
      sole_pending = refl;
      sole_not_announced = refl;
      late_stored = refl;
      late_final = refl;
      late_pending = refl;
      late_not_announced = refl;
    }
