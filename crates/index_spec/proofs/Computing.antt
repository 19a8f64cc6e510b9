-- Every definition of the crate and of those below it at once, for evaluated examples: `unfolding computing`. Assumes nothing.
use Rattle.final_spec.proofs.Computing.{computing as computing-finality}
use Rattle.index_spec.specs.Runs.{run, run_covers, votes_at, voters_in, same_voters, run_before, touches, unless_empty, overlaid, overlapping, added, says}
use Rattle.index_spec.specs.Runs.{gathered, joined_to, joined, stretched, merged}
use Rattle.index_spec.specs.Part.{own_run, own_runs, part_from, part_in}
use Rattle.index_spec.specs.Index.{digest_words, run_words, part_words, indexed, body_words, used_words, index_words, index_of, fresh_index, used_part}
use Rattle.index_spec.specs.Index.{index_agrees, index_short, index_holding, appended}
use Rattle.index_spec.specs.Certified.{part_certifies, quorum_run, author_run, certifying_runs, certified}

unfoldable pub computing : Unit {0}
unfolding computing-finality run run_covers votes_at voters_in same_voters run_before touches unless_empty overlaid overlapping added says gathered joined_to
    joined
    stretched merged own_run own_runs part_from part_in digest_words run_words part_words indexed body_words used_words index_words index_of fresh_index
    used_part
    index_agrees index_short index_holding appended part_certifies quorum_run author_run certifying_runs certified
computing = tt
