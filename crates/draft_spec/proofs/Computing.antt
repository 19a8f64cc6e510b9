-- Every definition of the crate and of those below it at once, for evaluated examples: `unfolding computing`. Assumes nothing.
use Rattle.record_spec.proofs.Computing.{computing as computing-blocks}
use Rattle.draft_spec.specs.Draft.{read_long_share, read_given, includes_in, statements_in, with_parts, draft_in, given_bytes, taken_apart}
use Rattle.draft_spec.specs.Joining.{touches, fronted, attached, pieces, run_statement, piece_statement, joined, is_accept, piece_given, right_piece, joinable}
use Rattle.draft_spec.specs.Joining.{neighbours, no_neighbours, shown, spread_out}
use Rattle.draft_spec.specs.Writing.{written_block, record_bytes, is_long, form_checks, write_checks, write_draft, write_timed, write_record}

unfoldable pub computing : Unit {0}
unfolding computing-blocks read_long_share read_given includes_in statements_in with_parts draft_in given_bytes taken_apart touches fronted attached pieces
    run_statement piece_statement joined is_accept piece_given right_piece joinable neighbours no_neighbours shown spread_out written_block record_bytes is_long
    form_checks write_checks write_draft write_timed write_record
computing = tt
