use mathlib.Core.Path.{refl}
use native.Mathlib.Omega.{arith}
use Rattle.listing_spec.specs.Output.{refused_with}
use Rattle.listing_feed_steps.specs.Steps.{feeding_of}
use Rattle.listing_feed_steps.proofs.refused.Goals as goal

pub returns : goal.returns
unfolding feeding_of refused_with
returns c = record {
  any_step = (λ s w. record { lines = rw (← c.number.ensures) c.put_refused-put.ensures; left = refl; ended = refl });
  counted_after = record
      { number = omega arith; accepted = omega arith; refusals = omega arith; processed = omega arith };
}
