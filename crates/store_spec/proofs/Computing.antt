-- Every definition of the crate and of those below it at once, for evaluated examples: `unfolding computing`. Assumes nothing.
use Rattle.record_spec.proofs.Computing.{computing as computing-blocks}
use Rattle.store_spec.specs.Layout.{read_record, used_by, entries, lesser, least, position_of, first_position, next_position, entry_bytes, body_bytes}
use Rattle.store_spec.specs.Layout.{header_bytes, layout, lookup, placed, ascending}
use Rattle.store_spec.specs.Accept.{is_stored, block_checks, all_accepted}
use Rattle.store_spec.specs.Store.{used_length, block_count, give_record, read_entry, read_entries, records_read, records_of, allowed_length, store_in_order}
use Rattle.store_spec.specs.Store.{store_full, store_holding}
use Rattle.store_spec.specs.Shares.{is_share_of, is_stored_share}
use Rattle.store_spec.specs.Payload.{share_stretch, payload_of, payload_at, payload_checks, stretch_of, payload, payload_length}
use Rattle.store_spec.specs.Claims.{ChainMeant, FreshInOrder, AcceptingKeepsOrder}

unfoldable pub computing : Unit {0}
unfolding computing-blocks read_record used_by entries lesser least position_of first_position next_position entry_bytes body_bytes header_bytes layout lookup
    placed
    ascending is_stored block_checks all_accepted used_length block_count give_record read_entry read_entries records_read records_of allowed_length
    store_in_order
    store_full store_holding is_share_of is_stored_share share_stretch payload_of payload_at payload_checks stretch_of payload payload_length ChainMeant
    FreshInOrder
    AcceptingKeepsOrder
computing = tt
