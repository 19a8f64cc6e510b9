use borrow.Author.Tests.{le-leb, lt-leb}
use Rattle.index_spec.specs.Runs.{run}
use Rattle.index_runs.specs.Values.{as_run, as_maybe, as_place}
use Rattle.index_pieces.specs.Pieces.{from_place, from_offset}
use Rattle.index_pieces.proofs.from_place.Goals as goal

pub returns-in_default : goal.returns-in_default
unfolding from_place from_offset as_place as_maybe as_run run
returns-in_default c = rw c.in_default.is

pub returns-then-x-offset : goal.returns-then-x-offset
unfolding from_place from_offset as_place as_maybe as_run run
returns-then-x-offset c = rw (
  c.in-Beyond.is,
  ← c.compare-order.ensures,
  c.in-Equal.is,
  le-leb c.args.x.end
      c.in-Beyond.offset c.if-x-offset.true,
)

pub returns-then-offset-x : goal.returns-then-offset-x
unfolding from_place from_offset as_place as_maybe as_run run
returns-then-offset-x c = rw (
  c.in-Beyond.is,
  ← c.compare-order.ensures,
  c.in-Equal.is,
  lt-leb
      c.args.x.end
      c.in-Beyond.offset c.if-x-offset.false,
  le-leb
      c.in-Beyond.offset
      c.args.x.start c.if-offset-x.true,
)

pub returns-in-Less : goal.returns-in-Less
unfolding from_place from_offset as_place as_maybe as_run run
returns-in-Less c = rw (c.in-Beyond.is, ← c.compare-order.ensures, c.in-Less.is)

pub returns-in-Greater : goal.returns-in-Greater
unfolding from_place from_offset as_place as_maybe as_run run
returns-in-Greater c = rw (c.in-Beyond.is, ← c.compare-order.ensures, c.in-Greater.is)

pub returns-else-offset-x : goal.returns-else-offset-x
unfolding from_place from_offset as_place as_maybe as_run run
returns-else-offset-x c = rw (
  c.in-Beyond.is,
  ← c.compare-order.ensures,
  c.in-Equal.is,
  lt-leb
      c.args.x.end
      c.in-Beyond.offset c.if-x-offset.false,
  lt-leb c.in-Beyond.offset
      c.args.x.start c.if-offset-x.false,
)
