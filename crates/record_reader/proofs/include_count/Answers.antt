use mathlib.Core.Path.{sym, ◌∙◌}
use Rattle.record_spec.specs.Record.{block_in}
use native.Mathlib.Omega.{arith}
use Rattle.record_reader.proofs.Shape.{shape_in, include_count}
use Rattle.record_reader.proofs.include_count.Goals as goal

pub read_u16-requires : goal.read_u16-requires
read_u16-requires c = omega (arith, (shape_in c.args.rec.now c.requires).long)

pub returns : goal.returns
returns c =
    let s = c.args.rec.now in
    c.read_u16.ensures ∙ sym (include_count s (block_in s) (shape_in s c.requires))
