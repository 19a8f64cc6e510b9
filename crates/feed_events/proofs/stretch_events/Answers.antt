use mathlib.Core.Path.{sym, ap, ◌∙◌}
use mathlib.Core.Option.{some}
use Rattle.pending_words.specs.Answers.{as_item}
use Rattle.pending_words.proofs.Slots.{holds_ordered}
use Rattle.pending_question.proofs.Lending.{index_found, at_none, at_some}
use Rattle.feed_events.proofs.Announced.{between_missed, between_processed, between_silent, stated_none, stated_by}
use borrow.Author.Rules.{rules}
use Rattle.feed_events.proofs.stretch_events.Goals as goal

pub returns-in_default : goal.returns-in_default
returns-in_default c =
    let o = c in
    let t = o.requires.table in
    let e = at_none _ (holds_ordered _ t.0) _ _ _ t.1 c.in_default.is in
    stated_by _ _ _ _ _ _ _ _ _ (between_missed _ _ _ _ _ _ _ _ t.2 e) c.missed_events.ensures.0
    c.missed_events.ensures.1

pub item_at-x-requires : goal.item_at-x-requires
item_at-x-requires c = let t = c.requires.table in
    (t.0.laid, index_found _ _ _ _ t.1 c.in-Some.is)

pub returns-then-not-is_quorum : goal.returns-then-not-is_quorum
unfolding as_item
returns-then-not-is_quorum c =
    let o = c in
    let t = o.requires.table in
    let e = at_some _ (holds_ordered _ t.0) _ _ _ t.1 _ c.in-Some.is ∙ ap some
    (sym c.item_at-x.ensures) in
    stated_none _ _ _ (between_silent _ _ _ _ _ _ _ _ t.2 (as_item c.item_at-x.result) e
    (sym c.is_quorum.ensures ∙ c.if-not-is_quorum.true))

pub returns : goal.returns
unfolding as_item
returns c =
    let o = c in
    let t = o.requires.table in
    let e = at_some _ (holds_ordered _ t.0) _ _ _ t.1 _ c.in-Some.is ∙
    ap some (sym c.item_at-x.ensures) in
    stated_by _ _ _ _ _ _ _ _ _ (between_processed _ _ _ _ _ _ _ _ t.2
    (as_item c.item_at-x.result) e
    (sym c.is_quorum.ensures ∙ c.if-not-is_quorum.false))
    c.put_events.ensures.0 c.put_events.ensures.1
