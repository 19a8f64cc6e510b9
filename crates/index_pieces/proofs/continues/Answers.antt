use mathlib.Core.Path.{sym, ◌∙◌}
use mathlib.Core.Bool.{and-false}
use borrow.Author.Tests.{eq-eqb, ne_eqb}
use Rattle.types.specs.Values.{as_reference}
use Rattle.types.proofs.Words.{compared_equal, compared_less, compared_greater}
use Rattle.index_spec.specs.Runs.{run, touches, same_voters}
use Rattle.index_runs.specs.Values.{as_run}
use Rattle.index_pieces.proofs.continues.Goals as goal

pub returns-then-x-y : goal.returns-then-x-y
unfolding touches same_voters as_run run
returns-then-x-y c = rw (ne_eqb c.args.x.end c.args.y.start c.if-x-y.true, and-false)

pub returns-then-x-y-2 : goal.returns-then-x-y-2
unfolding touches same_voters as_run run
returns-then-x-y-2 c = rw (
  ne_eqb c.args.x.votes.low
      c.args.y.votes.low c.if-x-y-2.true,
  and-false,
)

pub returns-then-x-y-3 : goal.returns-then-x-y-3
unfolding touches same_voters as_run run
returns-then-x-y-3 c = rw (
  eq-eqb c.args.x.votes.low
      c.args.y.votes.low c.if-x-y-2.false,
  ne_eqb
      c.args.x.votes.high
      c.args.y.votes.high c.if-x-y-3.true,
  and-false,
)

pub returns-in-Equal : goal.returns-in-Equal
unfolding touches same_voters as_run run
returns-in-Equal c = rw (
  compared_equal (as_reference c.args.x.block) (as_reference c.args.y.block)
      (sym c.compare-order.ensures ∙ c.in-Equal.is),
  eq-eqb
      c.args.x.end
      c.args.y.start
      c.if-x-y.false,
  eq-eqb
      c.args.x.votes.low
      c.args.y.votes.low
      c.if-x-y-2.false,
  eq-eqb
      c.args.x.votes.high
      c.args.y.votes.high
      c.if-x-y-3.false,
)

pub returns-in-Less : goal.returns-in-Less
unfolding touches same_voters as_run run
returns-in-Less c = rw (compared_less (as_reference c.args.x.block) (as_reference c.args.y.block)
    (sym c.compare-order.ensures ∙ c.in-Less.is)).0

pub returns-in-Greater : goal.returns-in-Greater
unfolding touches same_voters as_run run
returns-in-Greater c = rw (compared_greater (as_reference c.args.x.block) (as_reference c.args.y.block)
    (sym c.compare-order.ensures ∙ c.in-Greater.is)).0
