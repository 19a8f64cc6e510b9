use mathlib.Core.Path.{sym, ◌∙◌}
use Rattle.record_spec.specs.Reference.{locator}
use Rattle.types.specs.Values.{as_locator}
use Rattle.pending_words.specs.Answers.{as_item}
use Rattle.ring_fewest.specs.Answers.{as_ring}
use Rattle.pending_question.proofs.Lending.{index_found}
use Rattle.ring_pending.proofs.Asked.{ring_none, ring_some}
use borrow.Author.Rules.{rules}
use Rattle.ring_pending.proofs.ring_at.Goals as goal

pub enum_told-1 : goal.enum_told-1
enum_told-1 c = search rules

pub returns-in_default : goal.returns-in_default
unfolding as_ring as_locator locator
returns-in_default c = let o = c in sym
    (ring_none _ _ _ _ (as_locator o.args.locator) _ _ o.requires.1 c.lookup-p.ensures c.holding-found.ensures
    c.in_default.is)

pub item_at-x-requires : goal.item_at-x-requires
item_at-x-requires c = let o = c in
    (o.requires.1.laid, index_found _ _ _ _ c.holding-found.ensures c.in-Some.is)

pub returns : goal.returns
unfolding as_locator locator as_item
returns c =
    let o = c in
    c.fewest_owners.ensures
    ∙ sym (ring_some _ _ _ _ (as_locator o.args.locator) _ _ o.requires.1
    c.lookup-p.ensures
    c.holding-found.ensures _ (as_item c.item_at-x.result)
    c.in-Some.is c.item_at-x.ensures)
