use mathlib.Core.Path.{sym, ap, subst}
use Rattle.slip_read_paths.specs.Walk.{InPlace}
use Rattle.slip_read_ancestry.specs.Lacking.{lost_at}
use borrow.Author.Rules.{rules}
use Rattle.slip_read_ancestry.proofs.is_lost.Goals as goal

pub bounds-lacking-place : goal.bounds-lacking-place
unfolding InPlace
bounds-lacking-place c = subst (InPlace c.args.lacking.now) c.in-To.is
    c.requires

pub returns-in-To : goal.returns-in-To
unfolding lost_at
returns-in-To c = ap (lost_at c.args.lacking.now) (sym c.in-To.is)

pub returns-in-Nowhere : goal.returns-in-Nowhere
unfolding lost_at
returns-in-Nowhere c = search rules

pub returns-in-NotGiven : goal.returns-in-NotGiven
unfolding lost_at
returns-in-NotGiven c = search rules
