use mathlib.Core.Path.{sym}
use native.Mathlib.Omega.{arith}
use Rattle.record_reader.proofs.Shape.{shape_in}
use Rattle.record_reader.proofs.epoch_changed.Goals as goal

pub bounds-rec-48 : goal.bounds-rec-48
bounds-rec-48 c = omega (arith, (shape_in c.args.rec.now c.requires).long)

pub returns : goal.returns
returns c = sym (shape_in c.args.rec.now c.requires).marked
