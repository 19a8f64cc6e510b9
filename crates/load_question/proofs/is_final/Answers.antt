use mathlib.Core.Path.{◌≡◌, ◌∙◌}
use Rattle.committee.specs.Committee.{quorum_of}
use Rattle.committee_set.specs.AuthoritySet.{stake_of}
use Rattle.types.specs.Values.{as_locator}
use Rattle.final_readings_spec.specs.Answers.{as_reading}
use Rattle.final_certifying.proofs.Finals.{final_in_by}
use Rattle.load_question.proofs.is_final.Goals as goal

pub returns : goal.returns
returns c =
    let a = c.args in
    let found = c.certifying_blocks_in-found in
    let quorum : c.is_quorum.result ≡ quorum_of a.total.0 (stake_of a.stakes.now found.result.authors) = rw (← c.stake_of.ensures)
    c.is_quorum.ensures in
    quorum ∙ final_in_by (as_reading a.reading) a.stakes.now a.store.now (as_locator a.locator) a.total.0 found.result.authors
    c.requires.0.1 found.ensures.authors_value
