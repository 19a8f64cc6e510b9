use mathlib.Core.Path.{refl, sym}
use lib.Seq.{length-take-le}
use native.Mathlib.Omega.{arith}
use Rattle.listing_text.proofs.Text.{wrote_none}
use Rattle.listing_spec.specs.Output.{told}
use Rattle.listing_feed_steps.specs.Steps.{feeding_of, frame_read}
use Rattle.listing_feed_steps.proofs.Feeds.{fed_none}
use Rattle.listing_feed_steps.proofs.step.Goals as goal

pub slice_bounds-feed_record-end : goal.slice_bounds-feed_record-end
slice_bounds-feed_record-end c = sym
    (length-take-le c.in-Of.n c.args.rec.now
    (rw c.in-Of.is at c.requires.1))

pub returns-in-End : goal.returns-in-End
unfolding told feeding_of frame_read
returns-in-End c = record {
  step = rw c.in-End.is (record { lines = wrote_none _ 0 (omega arith); left = refl; ended = refl });
  counted_after = record
      { number = omega arith; accepted = omega arith; refusals = omega arith; processed = omega arith };
  fed_from = fed_none _ _ _;
}

pub returns-in-Broken : goal.returns-in-Broken
unfolding told frame_read
returns-in-Broken c = let done = c.refused.ensures in record {
  step = rw c.in-Broken.is
      (done.any_step c.args.store.now
      c.args.table.now);
  counted_after = done.counted_after;
  fed_from = fed_none _ _ _;
}

pub returns-in-Of : goal.returns-in-Of
unfolding frame_read
returns-in-Of c = let fed = c.feed_record.ensures in
    record { step = rw c.in-Of.is fed.step; counted_after = fed.counted_after; fed_from = fed.fed_from }
