-- Every definition of the crate and of those below it at once, for evaluated examples: `unfolding computing`. Assumes nothing.
use Rattle.final_readings_spec.proofs.Computing.{computing as computing-readings}
use Rattle.store_spec.specs.Shares.{is_share_of, is_stored_share}
use Rattle.list_stretches_spec.specs.Stretches.{edges_of, edges_by, last_locator, agree, certified_alike, goes_on, nearer, nearest, end_among, stretch_end}
use Rattle.list_stretches_spec.specs.Stretches.{stretch_at}
use Rattle.list_stretches_spec.specs.Stretches.{from_found, stretches}
use Rattle.list_ordinary_spec.specs.Shares.{shares_of}
use Rattle.list_readings_spec.specs.Lists.{is_listed, least_listed, list_edges, listing, all_listed}

unfoldable pub computing : Unit {0}
unfolding computing-readings is_share_of is_stored_share edges_of edges_by last_locator agree certified_alike goes_on nearer nearest end_among stretch_end
    stretch_at
    from_found stretches shares_of is_listed least_listed list_edges listing all_listed
computing = tt
