use Rattle.base.specs.Lists.{is_none}
use Rattle.final_spec.specs.NextFinal.{is_after}
use Rattle.list_order.specs.Row.{is_after_best}
use Rattle.types.specs.Values.{as_maybe}
use borrow.Author.Rules.{rules}
use Rattle.list_order.proofs.is_after_best.Goals as goal

pub returns-in_default : goal.returns-in_default
unfolding is_after_best is_none is_after as_maybe
returns-in_default c = rw c.in_default.is

pub returns : goal.returns
unfolding is_after_best is_none is_after as_maybe
returns c = rw c.in-Some.is c.comes_after.ensures
