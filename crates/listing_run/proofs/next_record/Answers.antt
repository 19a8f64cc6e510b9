use Rattle.listing_feed_steps.proofs.Feeds.{fed_none}
use Rattle.listing_run.proofs.next_record.Goals as goal

pub returns-in-Err-clause-fed_from : goal.returns-in-Err-clause-fed_from
returns-in-Err-clause-fed_from g c = fed_none _ _ _
