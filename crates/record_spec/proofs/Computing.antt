-- Every definition of the crate and of those below it at once, for evaluated examples: `unfolding computing`. Assumes nothing.
use Rattle.committee_set.proofs.Computing.{computing as computing-authority-set}
use Rattle.record_spec.specs.Reference.{reference_key, same_reference, reference_before, locator, same_locator, locator_before, new_range, one_range, within}
use Rattle.record_spec.specs.Reference.{offsets, locators, covers}
use Rattle.record_spec.specs.Block.{is_share, is_share_at, voted_range, counted_offsets, event_room, spans_from, spans, joined, runs_from, shared_ranges}
use Rattle.record_spec.specs.Record.{read_reference, read_locator, read_share, read_accept, read_other, read_reject, read_range, read_kind, read_statement}
use Rattle.record_spec.specs.Record.{edition_bytes, read_time, read_in, edition_of, timed_of, block_of, time_of, time_in, well_formed, no_reference}
use Rattle.record_spec.specs.Record.{no_statement}
use Rattle.record_spec.specs.Record.{no_block, block_in, reference_bytes, locator_bytes, other_bytes, statement_bytes, body_from, body_start, statement_start}
use Rattle.record_spec.specs.Record.{time_bytes, bytes_in, edition_for, timed_bytes, block_bytes}
use Rattle.record_spec.specs.Verify.{head_checks, include_checks, statement_checks, previous_authors, clock_valid, body_checks}
use Rattle.record_spec.specs.Claims.{are_bytes, fits_reference, fits_locator, fits_other, fits_statement, fits_block, fits_time, fits_in, ReadsIn, WritesIn}
use Rattle.record_spec.specs.Claims.{ReadsWhatIsWritten, WritesWhatIsRead, PlacesMeant}

unfoldable pub computing : Unit {0}
unfolding computing-authority-set reference_key same_reference reference_before locator same_locator locator_before new_range one_range within offsets locators
    covers is_share is_share_at voted_range counted_offsets event_room spans_from spans joined runs_from shared_ranges read_reference read_locator read_share
    read_accept
    read_other read_reject read_range read_kind read_statement edition_bytes read_time read_in edition_of timed_of block_of time_of time_in well_formed
    no_reference
    no_statement no_block block_in reference_bytes locator_bytes other_bytes statement_bytes body_from body_start statement_start time_bytes bytes_in
    edition_for
    timed_bytes block_bytes head_checks include_checks statement_checks previous_authors clock_valid body_checks are_bytes fits_reference fits_locator
    fits_other
    fits_statement fits_block fits_time fits_in ReadsIn WritesIn ReadsWhatIsWritten WritesWhatIsRead PlacesMeant
computing = tt
