-- The examples, evaluated. Assumes nothing.
use mathlib.Core.Path.{refl}
use Rattle.final_spec.proofs.Computing.{computing}
use Rattle.final_spec.proofs.ByHand.{by_hand_lem}
use Rattle.final_spec.specs.Examples.{Examples}

pub examples : Examples
unfolding computing
examples =
    record {
      below_marked = refl;
      voter_twice = refl;
      only_the = refl;
      least_the = refl;
      none_after = refl;
      not_stored = refl;
      inside = refl;
      past = refl;
      by_hand = by_hand_lem;
    }
