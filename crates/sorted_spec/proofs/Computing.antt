-- Every definition of the crate and of those below it at once, for evaluated examples: `unfolding computing`. Assumes nothing.
use Rattle.index_spec.proofs.Computing.{computing as computing-voters-index}
use Rattle.sorted_spec.specs.Sorted.{reply_words, single_reply, no_reply, reply_of, step_reply, step, replies_after, sorted_locators, locators_of, list_of}
use Rattle.sorted_spec.specs.Sorted.{asked}
use Rattle.sorted_spec.specs.Sorted.{sorted_checks, answer_sorted}

unfoldable pub computing : Unit {0}
unfolding computing-voters-index reply_words single_reply no_reply reply_of step_reply step replies_after sorted_locators locators_of list_of asked
    sorted_checks
    answer_sorted
computing = tt
