use mathlib.Core.Path.{sym}
use Rattle.record_spec.specs.Reference.{locator}
use Rattle.types.specs.Values.{as_locator}
use Rattle.pending_words.specs.Answers.{as_item}
use Rattle.pending_question.specs.Answers.{as_pending}
use Rattle.pending_question.proofs.Lending.{index_found, standing_none, standing_some}
use Rattle.pending_question.proofs.standing.Goals as goal

pub returns-in_default : goal.returns-in_default
unfolding as_pending as_locator locator
returns-in_default c = let o = c in sym
    (standing_none _ _ (as_locator o.args.locator) _ _ o.requires.1 c.lookup-p.ensures c.holding-found.ensures
    c.in_default.is)

pub item_at-x-requires : goal.item_at-x-requires
item_at-x-requires c = let o = c in
    (o.requires.1.laid, index_found _ _ _ _ c.holding-found.ensures c.in-Some.is)

pub returns : goal.returns
unfolding as_pending as_locator locator as_item
returns c = let o = c in rw c.count-voters.ensures
    (sym (standing_some _ _ (as_locator o.args.locator) _ _ o.requires.1
    c.lookup-p.ensures
    c.holding-found.ensures _ (as_item c.item_at-x.result)
    c.in-Some.is c.item_at-x.ensures))
