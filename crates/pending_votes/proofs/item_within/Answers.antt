use borrow.Author.Tests.{eq-eqb, ne_eqb, le-leb, lt-leb}
use Rattle.pending_spec.specs.Items.{item_within}
use Rattle.pending_words.specs.Answers.{as_item}
use Rattle.pending_votes.proofs.item_within.Goals as goal

pub returns-then-x-p : goal.returns-then-x-p
unfolding item_within as_item
returns-then-x-p c = rw (ne_eqb _ _ c.if-x-p.true)

pub returns-then-x-start : goal.returns-then-x-start
unfolding item_within as_item
returns-then-x-start c = rw (eq-eqb _ _ c.if-x-p.false, lt-leb _ _ c.if-x-start.true)

pub returns : goal.returns
unfolding item_within as_item
returns c = rw (eq-eqb _ _ c.if-x-p.false, le-leb _ _ c.if-x-start.false)
