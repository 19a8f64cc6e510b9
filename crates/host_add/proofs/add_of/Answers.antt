use Rattle.committee_aggregator.specs.StakeAggregator.{Added}
use Rattle.host_add.proofs.Added.{added_other, added_sized}
use Rattle.host_add.specs.Add.{AddCall, numbered, aggregator_bytes}
use Rattle.committee_vote_answer.specs.Answers.{as_add_answer}
use Rattle.committee_aggregator.specs.Answers.{as_added}
use mathlib.Core.Path.{ap, sym, ◌∙◌}
use Rattle.host_add.proofs.add_of.Goals as goal

pub returns-then-aggregator-ne24 : goal.returns-then-aggregator-ne24
unfolding numbered as_add_answer
returns-then-aggregator-ne24 c =
    let start = c.args in
    let e = added_other start.stakes.now start.aggregator.now start.voter c.if-aggregator-ne24.true in
    (rw c.no_aggregator.ensures (sym (ap (λ (x : AddCall). x.answer) e)), sym (ap (λ (x : AddCall). x.aggregator) e))

pub returns : goal.returns
unfolding as_added
returns c =
    let start = c.args in
    let e = added_sized start.stakes.now start.aggregator.now start.voter
    c.if-aggregator-ne24.false in
    let held = c.read_aggregator-held.ensures in
    let told = c.add-added.ensures in (
      ap (λ (x : Added). numbered x.answer) told ∙ rw held (sym (ap (λ (x : AddCall). x.answer) e)),
      c.write_aggregator.ensures ∙ ap
          (λ (x : Added). aggregator_bytes x.aggregator) told ∙ rw held (sym (ap (λ (x : AddCall). x.aggregator) e)),
    )
