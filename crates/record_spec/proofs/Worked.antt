-- The examples, evaluated. Assumes nothing.
use mathlib.Core.Path.{refl}
use Rattle.record_spec.proofs.Computing.{computing}
use Rattle.record_spec.specs.Examples.{Examples}

pub examples : Examples
unfolding computing
examples =
    record {
      empty_far = refl;
      backwards_far = refl;
      last_taken = refl;
      last_not = refl;
      by_round = refl;
      by_author = refl;
      by_digest = refl;
      by_offset_lem = refl;
      not_itself = refl;
      read_back = refl;
      full_length = refl;
      one_more = refl;
      one_less = refl;
      mark_two = refl;
      not_zero = refl;
      timed_back = refl;
      timed_length = refl;
      too_late = refl;
      edition_one = refl;
      second_byte = refl;
      no_time = refl;
      not_announced = refl;
      clock_once = refl;
      clock_three = refl;
      clock_stake = refl;
      clock_heads = refl;
      by_include = refl;
      by_statement = refl;
    }
