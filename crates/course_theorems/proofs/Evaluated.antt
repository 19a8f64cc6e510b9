-- The course, evaluated. Assumes nothing.
use mathlib.Core.Path.{refl}
use Rattle.mission_theorems.proofs.Computing.{computing}
use Rattle.course_theorems.specs.Course.{Course}

pub course : Course
unfolding computing
course =
    record {
      all_accepted = refl;
      announced = refl;
      events = refl;
      voted = refl;
      final = refl;
      next = refl;
      next_none = refl;
      list = refl;
      not_pending = refl;
      empty_table = refl;
      given_back = refl;
    }
