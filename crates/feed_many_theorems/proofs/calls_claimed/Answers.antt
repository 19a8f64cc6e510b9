use Rattle.feed_many_theorems.proofs.Framed.{records_framed, broken_end}
use Rattle.feed_many_theorems.proofs.Appended.{past_kept}
use Rattle.feed_many_theorems.proofs.AnyEvents.{all_any}
use Rattle.feed_many_theorems.proofs.Claimed.{malformed, one, joined}
use Rattle.feed_many_theorems.proofs.calls_claimed.Goals as goal

pub returns : goal.returns
returns c = record {
  framing = records_framed;
  broken_end = broken_end;
  malformed = malformed;
  one = one;
  past_events = past_kept;
  joined = joined;
  any_events =
      all_any;
}
