use mathlib.Core.Path.{sym, ◌∙◌}
use Rattle.record_spec.specs.Record.{block_in}
use native.Mathlib.Omega.{arith}
use Rattle.record_reader.proofs.Shape.{shape_in, include_count, include_at}
use Rattle.record_edition.proofs.Editions.{body_small}
use Rattle.record_reader.proofs.include.Goals as goal

pub body_start-requires : goal.body_start-requires
body_start-requires c = (shape_in c.args.rec.now c.requires.0).long

pub overflow_mul-k : goal.overflow_mul-k
overflow_mul-k c =
    let s = c.args.rec.now in
    let shape = shape_in s c.requires.0 in
    omega (arith, c.requires.1, include_count s (block_in s) shape, shape.head.includes)

pub overflow_add-body_start : goal.overflow_add-body_start
overflow_add-body_start c =
    let s = c.args.rec.now in
    let shape = shape_in s c.requires.0 in
    omega (arith, c.requires.1, include_count s (block_in s) shape, shape.head.includes, c.body_start.ensures, body_small s)

pub read_reference-requires : goal.read_reference-requires
read_reference-requires c =
    let s = c.args.rec.now in
    let shape = shape_in s c.requires.0 in
    omega (arith, c.requires.1, include_count s (block_in s) shape, shape.inside, c.body_start.ensures)

pub returns : goal.returns
returns c =
    let s = c.args.rec.now in
    c.read_reference.ensures ∙ rw c.body_start.ensures
    (sym (include_at s (block_in s) (shape_in s c.requires.0) c.args.k
    c.requires.1))
