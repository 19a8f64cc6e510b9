use mathlib.Core.Path.{ap, sym, ◌∙◌}
use mathlib.Core.Option.{some}
use native.Mathlib.Omega.{arith}
use Rattle.base.proofs.Le.{bytes_of}
use Rattle.record_reader.specs.Values.{as_time}
use Rattle.record_edition.proofs.Editions.{time_none, time_some, body_timed}
use Rattle.record_reader.proofs.Shape.{shape_in}
use Rattle.record_reader.proofs.creation_time.Goals as goal

pub bounds-rec-53 : goal.bounds-rec-53
bounds-rec-53 c = omega (arith, (shape_in c.args.rec.now c.requires).long)

pub returns-then-rec-ne2 : goal.returns-then-rec-ne2
unfolding as_time
returns-then-rec-ne2 c =
    let o = c in
    let s = o.args.rec.now in
    let shape = shape_in s o.requires in
    time_none s shape.long shape.head.edition (λ h. omega (arith, h)) ∙ sym shape.time

pub read_u64-requires : goal.read_u64-requires
read_u64-requires c =
    let o = c in
    let s = o.args.rec.now in
    omega (arith, (shape_in s o.requires).inside, body_timed s (omega arith))

pub returns : goal.returns
unfolding as_time
returns c =
    let o = c in
    let s = o.args.rec.now in
    let shape = shape_in s o.requires in
    ap some c.read_u64.ensures ∙ time_some s shape.long (bytes_of s (λ j h. omega (arith, c.shared_slice_known-1.given j)))
    shape.head.edition (omega arith) ∙ sym shape.time
