-- Every definition of the crate and of those below it at once, for evaluated examples: `unfolding computing`. Assumes nothing.
use Rattle.committee_aggregator.proofs.Computing.{computing as computing-stake-aggregator}
use Rattle.store_spec.proofs.Computing.{computing as computing-store-layout}
use Rattle.pending_spec.specs.Items.{item_before, item_full, item_holds, item_at, falls_inside, cut_item, cut_at, both_cuts, item_within, voted_item, vote_over}
use Rattle.pending_spec.specs.Items.{stays, after_leaving, first_vote, registered, register}
use Rattle.pending_spec.specs.Table.{item_words, table_of, room, item_from, read_item, items_read, items_of, shares_in, item_suits, item_stored, item_in_order}
use Rattle.pending_spec.specs.Table.{table_in_order, table_formed, table_stored}

unfoldable pub computing : Unit {0}
unfolding computing-stake-aggregator computing-store-layout item_before item_full item_holds item_at falls_inside cut_item cut_at both_cuts item_within
    voted_item
    vote_over stays after_leaving first_vote registered register item_words table_of room item_from read_item items_read items_of shares_in item_suits
    item_stored
    item_in_order table_in_order table_formed table_stored
computing = tt
