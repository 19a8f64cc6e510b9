use mathlib.Core.Path.{refl}
use native.Mathlib.Omega.{arith}
use Rattle.listing_events.proofs.Events.{processed_few}
use Rattle.listing_spec.specs.Output.{accepted_with}
use Rattle.listing_feed_steps.specs.Steps.{feeding_of}
use Rattle.listing_feed_steps.proofs.accepted.Goals as goal

pub overflow_add-result-3 : goal.overflow_add-result-3
overflow_add-result-3 c = omega (
  arith,
  c.put_events-printed.ensures.processed_value,
  processed_few
      c.args.n
      c.args.events.now,
)

pub returns : goal.returns
unfolding feeding_of accepted_with
returns c =
    let printed = c.put_events-printed.ensures in record {
      any_step = (λ s w. record { lines = printed.wrote; left = rw printed.processed_value; ended = refl });
      counted_after = record {
        number = omega arith;
        accepted = omega arith;
        refusals = omega arith;
        processed = omega (
          arith,
          printed.processed_value,
          processed_few c.args.n
              c.args.events.now,
        );
      };
    }
