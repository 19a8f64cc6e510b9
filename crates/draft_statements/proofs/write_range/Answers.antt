use mathlib.Core.Path.{◌≡◌, ◌∙◌}
use lib.ListN.{length, length-set}
use native.Mathlib.Omega.{arith}
use Rattle.draft_statements.proofs.Written.{range_written}
use Rattle.draft_statements.proofs.write_range.Goals as goal

pub write_reference-requires : goal.write_reference-requires
write_reference-requires c = simp length-set (omega arith)

pub write_u64-requires : goal.write_u64-requires
write_u64-requires c =
    let e : length c.write_reference.new.s ≡ length c.args.out.now = c.write_reference.auto.s ∙ simp length-set in
    omega arith

pub write_u64-requires-2 : goal.write_u64-requires-2
write_u64-requires-2 c =
    let e : length c.write_u64.new.s ≡ length
    c.args.out.now = c.write_u64.auto.s ∙
    c.write_reference.auto.s ∙ simp length-set in
    omega arith

pub shape_of-out : goal.shape_of-out
shape_of-out c = c.write_u64-2.auto.s ∙ c.write_u64.auto.s ∙ c.write_reference.auto.s ∙ simp length-set

pub returns : goal.returns
returns c =
    let a = c.args in
    c.write_u64-2.ensures ∙ rw (
      c.write_u64.ensures,
      c.write_reference.ensures,
    ) (range_written a.out.now a.at a.range)
