use Rattle.host_pending_bytes.proofs.Standings.{pending_sized, pending_other}
use Rattle.host_locators.specs.Locators.{locator_of}
use Rattle.base.specs.Checks.{refused}
use Rattle.pending_question.specs.Answers.{as_pending}
use mathlib.Core.Path.{ap, sym, ◌∙◌}
use Rattle.host_pending_bytes.proofs.pending_of.Goals as goal

pub returns-then-table-ne-TABLE_BYTES : goal.returns-then-table-ne-TABLE_BYTES
unfolding as_pending
returns-then-table-ne-TABLE_BYTES c =
    let start = c.args in
    ap refused c.refusal_before.ensures ∙ sym (pending_other start.stakes.now start.store.now start.table.now
    (locator_of start.locator.now) c.if-table-ne-TABLE_BYTES.true)

pub returns : goal.returns
returns c =
    let start = c.args in
    c.pending_in.ensures ∙ rw c.words_of.ensures
    (sym (pending_sized start.stakes.now start.store.now start.table.now (locator_of start.locator.now)
    c.if-table-ne-TABLE_BYTES.false))
