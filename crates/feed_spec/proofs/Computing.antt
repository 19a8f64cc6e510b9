-- Every definition of the crate and of those below it at once, for evaluated examples: `unfolding computing`. Assumes nothing.
use Rattle.pending_spec.proofs.Computing.{computing as computing-pending-items}
use Rattle.record_spec.specs.Block.{counted_offsets, event_room}
use Rattle.feed_spec.specs.ProcessBlock.{event_words, words_of, missed, event_at, event_of, vote, votes, registering, process_block}
use Rattle.feed_spec.specs.Feed.{processed, lent_checks, rule_checks, accept_checks, record_checks, feed_checks, refused_feed, accepted_feed, feed_record, feed}
use Rattle.feed_spec.specs.Pending.{pending_checks, standing_of, standing_at, pending}

unfoldable pub computing : Unit {0}
unfolding computing-pending-items event_words words_of missed event_at event_of vote votes registering process_block counted_offsets event_room processed
    lent_checks
    rule_checks accept_checks record_checks feed_checks refused_feed accepted_feed feed_record feed pending_checks standing_of standing_at pending
computing = tt
