-- Every definition of the crate and of those below it at once, for evaluated examples: `unfolding computing`. Assumes nothing.
use Rattle.committee.proofs.Computing.{computing as computing-committee}
use Rattle.stakes_chain.specs.Layout.{well_sized, record_count, place, first_index, next_index, in_file}
use Rattle.stakes_chain.specs.Chain.{linked, chain_from, chain_of}
use Rattle.stakes_names.specs.Names.{name_at, padded, good_name, good_names}
use Rattle.stakes_file.specs.Load.{stake_at, members_at, member_checks, load_along, load, loaded_into}

unfoldable pub computing : Unit {0}
unfolding computing-committee well_sized record_count place first_index next_index in_file linked chain_from chain_of name_at padded good_name good_names
    stake_at
    members_at member_checks load_along load loaded_into
computing = tt
