use borrow.Author.Tests.{lt-ltb, le-ltb}
use Rattle.index_spec.specs.Runs.{run}
use Rattle.index_runs.specs.Values.{as_run}
use Rattle.index_pieces.specs.Pieces.{overlaid, overlaid_by}
use Rattle.index_pieces.proofs.overlaid.Goals as goal

pub returns-then-x-y : goal.returns-then-x-y
unfolding overlaid overlaid_by as_run run
returns-then-x-y c = rw (
  c.cut.ensures,
  ← c.compare-order.ensures,
  c.in-Equal.is,
  lt-ltb c.args.x.start
      c.args.y.start c.if-x-y.true,
)

pub returns-then-y-x : goal.returns-then-y-x
unfolding overlaid overlaid_by as_run run
returns-then-y-x c = rw (
  c.cut-then-y-x.ensures,
  ← c.compare-order.ensures,
  c.in-Equal.is,
  le-ltb
      c.args.x.start
      c.args.y.start c.if-x-y.false,
  lt-ltb
      c.args.y.start
      c.args.x.start c.if-y-x.true,
)

pub returns-in-Less : goal.returns-in-Less
unfolding overlaid overlaid_by as_run run
returns-in-Less c = rw (← c.compare-order.ensures, c.in-Less.is)

pub returns-in-Greater : goal.returns-in-Greater
unfolding overlaid overlaid_by as_run run
returns-in-Greater c = rw (← c.compare-order.ensures, c.in-Greater.is)

pub returns-else-y-x : goal.returns-else-y-x
unfolding overlaid overlaid_by as_run run
returns-else-y-x c = rw (
  ← c.compare-order.ensures,
  c.in-Equal.is,
  le-ltb
      c.args.x.start
      c.args.y.start
      c.if-x-y.false,
  le-ltb
      c.args.y.start
      c.args.x.start
      c.if-y-x.false,
  c.union-votes.ensures,
  c.nearer.ensures,
)
