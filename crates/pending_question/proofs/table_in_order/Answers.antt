use mathlib.Core.Path.{sym, ◌∙◌}
use Rattle.pending_form.proofs.Forming.{order_parts}
use Rattle.pending_votes.proofs.Voting.{formed}
use Rattle.pending_question.proofs.table_in_order.Goals as goal

pub returns-then-not-table_formed : goal.returns-then-not-table_formed
returns-then-not-table_formed c = let f = sym c.table_formed.ensures ∙ c.if-not-table_formed.true in sym (order_parts _ _ _ ∙ rw f)

pub items_stored-requires : goal.items_stored-requires
items_stored-requires c = let f = sym c.table_formed.ensures ∙ c.if-not-table_formed.false in
    (c.requires.1, (formed _ _ f).holds)

pub returns : goal.returns
returns c = let f = sym c.table_formed.ensures ∙ c.if-not-table_formed.false in c.items_stored.ensures ∙ sym
    (order_parts _ _ _ ∙ rw f)
