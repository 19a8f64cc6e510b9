use mathlib.Core.Path.{sym, ap, ◌∙◌}
use native.Mathlib.Omega.{arith}
use Rattle.record_spec.specs.Reference.{BlockReference}
use Rattle.record_reference_bytes.specs.Step.{reference_at}
use Rattle.record_reader.proofs.Shape.{shape_in}
use Rattle.record_reader.proofs.author.Goals as goal

pub read_u64-requires : goal.read_u64-requires
read_u64-requires c = omega (arith, (shape_in c.args.rec.now c.requires).long)

pub returns : goal.returns
unfolding reference_at
returns c = c.read_u64.ensures ∙ sym (ap (λ (r : BlockReference). r.authority)
    (shape_in c.args.rec.now c.requires).reference)
