use Rattle.host_calls.specs.Calls.{encoded}
use Rattle.host_feed_bytes.specs.Feed.{feed_call}
use Rattle.feed_single.specs.Answers.{as_feed_answer}
use native.Mathlib.Omega.{arith}
use lib.Seq.{length-take-le}
use mathlib.Core.Path.{sym, ◌∙◌}
use Rattle.host_feed.proofs.feed.Goals as goal

pub slice_bounds-feed_of-end : goal.slice_bounds-feed_of-end
slice_bounds-feed_of-end c = sym (length-take-le c.stakes_of-n.result c.stakes_of-n.new.stakes
    (omega (arith, c.stakes_of-n.auto.stakes, c.stakes_of-n.ensures.0)))

pub returns-in-Ok : goal.returns-in-Ok
unfolding encoded feed_call as_feed_answer
returns-in-Ok c = record {
  value = rw (
    ← c.stakes_of-n.ensures.1,
    ← c.feed_of.ensures.result_value,
    c.in-Ok.is,
  );
  store_after = rw (← c.stakes_of-n.ensures.1)
      c.feed_of.ensures.store_after;
  table_after = rw (← c.stakes_of-n.ensures.1)
      c.feed_of.ensures.table_after;
  events_after = rw
      (← c.stakes_of-n.ensures.1)
      c.feed_of.ensures.events_after;
}

pub returns-in-Err : goal.returns-in-Err
unfolding encoded feed_call as_feed_answer
returns-in-Err c = record {
  value = c.refused.ensures ∙ rw (
    ← c.stakes_of-n.ensures.1,
    ← c.feed_of.ensures.result_value,
    c.in-Err.is,
  );
  store_after = rw (← c.stakes_of-n.ensures.1)
      c.feed_of.ensures.store_after;
  table_after = rw (← c.stakes_of-n.ensures.1)
      c.feed_of.ensures.table_after;
  events_after = rw
      (← c.stakes_of-n.ensures.1)
      c.feed_of.ensures.events_after;
}
