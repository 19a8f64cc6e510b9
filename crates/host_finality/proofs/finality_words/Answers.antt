use mathlib.Core.Path.{sym, ap, ◌∙◌}
use lib.ListN.{length}
use Rattle.final_readings_spec.specs.Answers.{as_reading}
use Rattle.host_finality.specs.Finality.{FinalityCall, finality_number}
use Rattle.host_finality.proofs.Finals.{asked_words, finality_fits}
use Rattle.host_finality.proofs.finality_words.Goals as goal

pub returns : goal.returns
returns c =
    let start = c.args in
    let e = asked_words (as_reading start.reading) start.stakes.now start.store.now start.positions.now start.locator.now
    c.requires.0
    c.requires.1 in
    let words = c.words_of.ensures in
    let place = c.read_locator-place.ensures in
    let told = c.finality_in-answer in record {
      asked = (
        ap finality_number told.ensures.result_value ∙ rw (words, place) (sym (ap (λ (x : FinalityCall). x.answer) e)),
        c.bytes_of.ensures ∙ rw
            (told.ensures.positions_after, words, place) (sym (ap (λ (x : FinalityCall). x.positions) e)),
      );
      bounded = finality_fits (as_reading start.reading) start.stakes.now
          start.store.now _ _ told.result c.words_of.auto.words
          told.ensures.result_value (ap length (sym told.ensures.positions_after) ∙ told.auto.positions);
    }
