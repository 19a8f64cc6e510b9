-- Every definition of the crate and of those below it at once, for evaluated examples: `unfolding computing`. Assumes nothing.
use Rattle.final_readings_spec.proofs.Computing.{computing as computing-readings}
use Rattle.slip_spec.specs.Slip.{voters_ascend, certifiers_ascend, read_voter, read_certifier, read_body, read_first, names_reading, read_slip, no_slip}
use Rattle.slip_spec.specs.Slip.{slip_in}
use Rattle.slip_spec.specs.Slip.{voter_bytes, certifier_bytes, reading_byte, slip_bytes, fits_voter, fits_certifier, fits_slip}
use Rattle.slip_spec.specs.Supplied.{read_supplied, supplied_records, supplied_in, supplied_blocks, right_blocks, supplied_bytes}
use Rattle.slip_spec.specs.Paths.{named, on_from, on_by, leads, lesser_distance, least_distance, distance, is_away, first_place, steps_from, path_to}
use Rattle.slip_spec.specs.Ancestry.{passes_within, in_ancestry, lacks, lacks_ancestor, rejects_as, has_rejected}
use Rattle.slip_spec.specs.Reading.{is_not_given, missing_from, missing, votes_as, ends_at_vote, certifier_holds, slip_holds, read_checks, read_answer}
use Rattle.slip_spec.specs.Writing.{placed_block, ascending_blocks, voter_of, certifier_of, ordered_certifiers, slip_for, write_checks, write_slip}
use Rattle.slip_spec.specs.Claims.{SlipReadsBack, SlipWritesBack, ReadingMeant, MissingMeant, AcceptedCertifies, AcceptedInStore, PathsMeant}
use Rattle.slip_spec.specs.Claims.{WrittenNamesAll, WrittenAccepted, WrittenReads}

unfoldable pub computing : Unit {0}
unfolding computing-readings voters_ascend certifiers_ascend read_voter read_certifier read_body read_first names_reading read_slip no_slip slip_in voter_bytes
    certifier_bytes reading_byte slip_bytes fits_voter fits_certifier fits_slip read_supplied supplied_records supplied_in supplied_blocks right_blocks
    supplied_bytes
    named on_from on_by leads lesser_distance least_distance distance is_away first_place steps_from path_to passes_within in_ancestry lacks lacks_ancestor
    rejects_as
    has_rejected is_not_given missing_from missing votes_as ends_at_vote certifier_holds slip_holds read_checks read_answer placed_block ascending_blocks
    voter_of
    certifier_of ordered_certifiers slip_for write_checks write_slip SlipReadsBack SlipWritesBack ReadingMeant MissingMeant AcceptedCertifies AcceptedInStore
    PathsMeant WrittenNamesAll WrittenAccepted WrittenReads
computing = tt
