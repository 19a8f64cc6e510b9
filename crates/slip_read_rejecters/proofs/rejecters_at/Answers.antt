use mathlib.Core.Path.{sym, ap, subst, ◌∙◌}
use Rattle.slip_read_rejecters.specs.Rejecting.{InTable, rejecters_at}
use borrow.Author.Rules.{rules}
use Rattle.slip_read_rejecters.proofs.rejecters_at.Goals as goal

pub set_at-requires : goal.set_at-requires
unfolding InTable
set_at-requires c = subst (InTable c.args.rejecting.now) c.in-To.is
    c.requires

pub returns-in-To : goal.returns-in-To
unfolding rejecters_at
returns-in-To c = c.set_at.ensures ∙ ap (rejecters_at c.args.rejecting.now) (sym c.in-To.is)

pub returns-in-Nowhere : goal.returns-in-Nowhere
unfolding rejecters_at
returns-in-Nowhere c = c.new.ensures ∙ ap (rejecters_at c.args.rejecting.now) (sym c.in-Nowhere.is)

pub returns-in-NotGiven : goal.returns-in-NotGiven
unfolding rejecters_at
returns-in-NotGiven c = c.new-in-NotGiven.ensures ∙ ap (rejecters_at c.args.rejecting.now) (sym c.in-NotGiven.is)
