use native.Mathlib.Omega.{arith}
use Rattle.pending_cuts.proofs.Cuts.{cut_absent, cut_index, cut_present, length_present}
use Rattle.pending_cuts.proofs.cut_at.Goals as goal

pub returns-in_default : goal.returns-in_default
returns-in_default c = cut_absent _ c.requires.0 _ _ _ c.inside.ensures c.in_default.is

pub split_item-requires : goal.split_item-requires
split_item-requires c =
    let start = c in (
      start.requires.0,
      cut_index _ start.requires.0 _ _ _ c.inside.ensures _ c.in-Some.is,
      omega (
        arith,
        start.requires.1,
        length_present _ start.requires.0 _ _ _ c.inside.ensures _
            c.in-Some.is,
      ),
    )

pub returns : goal.returns
returns c =
    rw (cut_present _ c.requires.0 _ _ _
    c.inside.ensures _ c.in-Some.is)
    c.split_item.ensures
