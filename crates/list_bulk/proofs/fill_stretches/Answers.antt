use native.Mathlib.Omega.{arith}
use Rattle.base.proofs.Lists.{zeros_at}
use Rattle.final_block_votes.proofs.Sorting.{some_committee}
use Rattle.list_bulk.proofs.fill_stretches.Goals as goal

pub note_includes-requires : goal.note_includes-requires
note_includes-requires c = let p = c.requires in
    ((some_committee p.0.0, p.1), (omega (arith, p.1), λ x. zeros_at 17408 x))

pub fill-requires : goal.fill-requires
fill-requires c = (c.requires, c.note_includes.ensures)
