use mathlib.Core.Path.{◌∙◌}
use native.Mathlib.Omega.{arith}
use lib.ListN.{length-set}
use Rattle.types.specs.Values.{as_locator}
use Rattle.record_reference_bytes.proofs.Written.{length_locator_bytes}
use Rattle.slip_write_parts.proofs.Over.{head_written}
use Rattle.slip_write_parts.proofs.write_head.Goals as goal

pub write_locator-requires : goal.write_locator-requires
write_locator-requires c = let a = c.args in
    omega (arith, c.requires, length-set a.out.now 0 a.head.first)

pub write_u16-requires : goal.write_u16-requires
write_u16-requires c = let a = c.args in
    omega (
      arith,
      c.requires,
      length-set a.out.now 0 a.head.first,
      c.write_locator.auto.s,
    )

pub shape_of-out : goal.shape_of-out
shape_of-out c = let a = c.args in
    c.write_u16.auto.s ∙ c.write_locator.auto.s ∙ length-set a.out.now 0
    a.head.first

pub returns : goal.returns
returns c = let a = c.args in
    c.write_u16.ensures ∙ rw c.write_locator.ensures
    (head_written (as_locator a.head.locator) (length_locator_bytes a.head.locator) a.out.now a.head.first a.count)
