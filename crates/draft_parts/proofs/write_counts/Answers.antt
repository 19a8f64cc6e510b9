use mathlib.Core.Path.{◌≡◌, ◌∙◌}
use native.Mathlib.Omega.{arith}
use lib.ListN.{length, length-set}
use Rattle.draft_parts.proofs.PartsWritten.{counts_written}
use Rattle.draft_parts.proofs.write_counts.Goals as goal

pub write_u16-requires : goal.write_u16-requires
write_u16-requires c = simp length-set (omega arith)

pub write_u16-requires-2 : goal.write_u16-requires-2
write_u16-requires-2 c =
    let kept : length c.write_u16.new.s ≡ length c.args.out.now = c.write_u16.auto.s ∙ simp length-set in
    omega arith

pub shape_of-out : goal.shape_of-out
shape_of-out c = c.write_u16-2.auto.s ∙ c.write_u16.auto.s ∙ simp length-set

pub returns : goal.returns
returns c =
    let a = c.args in
    c.write_u16-2.ensures ∙ rw c.write_u16.ensures
    (counts_written a.out.now a.mark a.includes a.statements)
