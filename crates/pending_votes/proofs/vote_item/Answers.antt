use mathlib.Core.Path.{sym, ◌∙◌}
use Rattle.pending_words.specs.Answers.{as_item}
use Rattle.pending_words.specs.Step.{voted_in}
use Rattle.pending_votes.proofs.vote_item.Goals as goal

pub returns-then-not-item_within : goal.returns-then-not-item_within
unfolding voted_in
returns-then-not-item_within c = rw (sym c.item_within.ensures ∙ c.if-not-item_within.true)

pub returns : goal.returns
unfolding voted_in as_item
returns c = rw (sym c.item_within.ensures ∙ c.if-not-item_within.false, c.with_vote.ensures)
