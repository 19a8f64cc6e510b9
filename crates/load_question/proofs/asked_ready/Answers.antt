use mathlib.Core.Path.{sym, subst, ◌∙◌}
use Rattle.types.specs.Values.{as_locator}
use Rattle.final_readings_spec.specs.Answers.{as_reading}
use Rattle.final_block_votes.proofs.Sorting.{some_committee}
use Rattle.load_chain.specs.Chain.{Never, Seen}
use Rattle.load_chain.specs.declared.Sight.{Sight}
use borrow.Author.Rules.{rules}
use Rattle.load_question.proofs.asked_ready.Goals as goal

pub look-seen-requires : goal.look-seen-requires
look-seen-requires c = some_committee c.requires.0.0

pub returns-in-No : goal.returns-in-No
unfolding Seen Never
returns-in-No c =
    let a = c.args in
    let f = subst (λ (x : Sight). Seen a.store.now a.order.now (as_locator a.locator) x) c.in-No.is c.look-seen.ensures
    in
    sym (f (as_reading a.reading) a.stakes.now c.requires.0.0.in_order)

pub returns-in-Alone : goal.returns-in-Alone
unfolding Seen
returns-in-Alone c =
    let a = c.args in
    let f = subst (λ (x : Sight). Seen a.store.now a.order.now (as_locator a.locator) x) c.in-Alone.is
    c.look-seen.ensures in
    c.is_final.ensures ∙ sym (f.1 (as_reading a.reading) a.stakes.now c.requires.0.0.in_order)
