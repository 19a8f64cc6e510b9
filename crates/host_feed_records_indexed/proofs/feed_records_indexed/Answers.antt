use mathlib.Core.Path.{sym, ◌∙◌}
use native.Mathlib.Omega.{arith}
use lib.Seq.{length-take-le}
use Rattle.feed_many.specs.Answers.{as_records_answer}
use Rattle.host_calls.specs.Calls.{encoded}
use Rattle.host_feed_records_indexed.specs.FeedRecords.{feed_records_indexed_call}
use Rattle.host_feed_records_indexed.proofs.feed_records_indexed.Goals as goal

pub slice_bounds-feed_records_of-end : goal.slice_bounds-feed_records_of-end
slice_bounds-feed_records_of-end c = sym (length-take-le c.stakes_of-n.result c.stakes_of-n.new.stakes
    (omega (arith, c.stakes_of-n.auto.stakes, c.stakes_of-n.ensures.0)))

pub returns-in-Ok : goal.returns-in-Ok
unfolding encoded feed_records_indexed_call as_records_answer
returns-in-Ok c =
    let s = c.stakes_of-n.ensures.1 in
    let f = c.feed_records_of.ensures in record {
      value = rw (← s, ← f.result_value, c.in-Ok.is);
      store_after = rw (← s) f.store_after;
      table_after = rw
          (← s) f.table_after;
      index_after = rw (← s) f.index_after;
      events_after = rw (← s) f.events_after;
      outcomes_after = rw (← s) f.outcomes_after;
    }

pub returns-in-Err : goal.returns-in-Err
unfolding encoded feed_records_indexed_call as_records_answer
returns-in-Err c =
    let s = c.stakes_of-n.ensures.1 in
    let f = c.feed_records_of.ensures in record {
      value = c.refused.ensures ∙ rw (← s, ← f.result_value, c.in-Err.is);
      store_after = rw (← s) f.store_after;
      table_after = rw
          (← s) f.table_after;
      index_after = rw (← s) f.index_after;
      events_after = rw (← s) f.events_after;
      outcomes_after = rw (← s) f.outcomes_after;
    }
