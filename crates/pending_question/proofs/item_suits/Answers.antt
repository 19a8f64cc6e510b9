use borrow.Author.Tests.{not-false, not-true}
use mathlib.Core.Path.{sym, ap, ◌∙◌}
use Rattle.committee_set.specs.AuthoritySet.{member}
use Rattle.record_spec.specs.Reference.{BlockReference}
use Rattle.types.specs.Values.{as_reference}
use Rattle.store_spec.proofs.Loops.{refuses}
use Rattle.pending_words.specs.Answers.{as_item}
use Rattle.pending_spec.specs.Table.{item_suits}
use Rattle.pending_question.proofs.item_suits.Goals as goal

pub returns-then-not-found : goal.returns-then-not-found
unfolding item_suits as_item
returns-then-not-found c =
    let n = c in
    refuses (rw (sym n.shares_in-found.ensures.0 ∙ not-true _ c.if-not-found.true))

pub returns : goal.returns
unfolding item_suits as_item as_reference
returns c =
    let n = c in
    let all = not-false _ c.if-not-found.false in
    let votes = n.args.x.aggregator.votes in (
      rw (sym n.shares_in-found.ensures.0 ∙ all) (c.contains-all.ensures ∙ ap (λ (z : BlockReference). member votes z.authority)
          c.reference-reference.ensures),
      λ _. n.shares_in-found.ensures.1 all,
    )
