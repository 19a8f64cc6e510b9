use mathlib.Core.Path.{◌≡◌}
use Prim.Native.Nat.{◌+◌, ◌*◌}
use native.Mathlib.Omega.{arith}
use lib.ListN.{length}
use Rattle.base.specs.Lists.{sum_of}
use Rattle.record_spec.specs.Record.{block_in, body_start, statement_start}
use Rattle.record_cursor.specs.Cursor.{cursor_at}
use Rattle.record_reader.proofs.Shape.{shape_in, include_count}
use Rattle.record_edition.proofs.Editions.{body_small}
use Rattle.record_cursor.proofs.first_statement.Goals as goal

pub body_start-requires : goal.body_start-requires
body_start-requires c = (shape_in c.args.rec.now c.requires).long

pub overflow_mul-result : goal.overflow_mul-result
overflow_mul-result c =
    let s = c.args.rec.now in
    let shape = shape_in s c.requires in
    omega (arith, shape.head.includes, include_count s (block_in s) shape, c.include_count.ensures)

pub overflow_add-result : goal.overflow_add-result
overflow_add-result c =
    let s = c.args.rec.now in
    let shape = shape_in s c.requires in
    omega (arith, shape.head.includes, include_count s (block_in s) shape, c.include_count.ensures, c.body_start.ensures, body_small s)

pub returns : goal.returns
unfolding cursor_at statement_start sum_of
returns c =
    let s = c.args.rec.now in
    let n = length (block_in s).includes in
    let e : body_start s + 48 * n + 0 ≡ body_start s + 48 * n = omega arith in
    rw (c.body_start.ensures, c.include_count.ensures, e)
