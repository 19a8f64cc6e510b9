use mathlib.Core.Path.{sym, ap, ◌∙◌}
use Rattle.committee_set.specs.AuthoritySet.{inserted, nobody}
use Rattle.types.specs.Values.{as_reference, as_locator}
use Rattle.store_spec.specs.Entry.{block_at}
use Rattle.final_block_rejects.proofs.Reading.{own_yes, own_no}
use Rattle.final_block_rejects.proofs.own_reject_at.Goals as goal

pub returns-then-not-rejects_at : goal.returns-then-not-rejects_at
returns-then-not-rejects_at c = let a = c.args in
    c.new.ensures ∙ sym (own_no (block_at a.store.now a.at) (as_locator a.locator)
    (sym c.rejects_at.ensures ∙ c.if-not-rejects_at.true))

pub insert-requires : goal.insert-requires
unfolding as_reference
insert-requires c = let p = c in rw (ap (λ r. r.authority) c.reference_at-block.ensures) p.requires.1

pub returns : goal.returns
unfolding as_reference
returns c = let a = c.args in
    c.insert.ensures ∙ rw c.new-2.ensures (ap (λ r. inserted nobody r.authority) c.reference_at-block.ensures)
    ∙ sym (own_yes (block_at a.store.now a.at) (as_locator a.locator)
    (sym c.rejects_at.ensures ∙ c.if-not-rejects_at.false))
