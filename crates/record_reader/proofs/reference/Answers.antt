use mathlib.Core.Path.{sym, ◌∙◌}
use native.Mathlib.Omega.{arith}
use Rattle.record_reader.proofs.Shape.{shape_in}
use Rattle.record_reader.proofs.reference.Goals as goal

pub read_reference-requires : goal.read_reference-requires
read_reference-requires c = omega (arith, (shape_in c.args.rec.now c.requires).long)

pub returns : goal.returns
returns c = c.read_reference.ensures ∙ sym (shape_in c.args.rec.now c.requires).reference
