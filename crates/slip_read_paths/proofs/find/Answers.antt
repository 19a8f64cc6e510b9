use Rattle.slip_read_paths.specs.Walk.{to_place, missing}
use Rattle.slip_spec.specs.Paths.{on_from}
use Rattle.slip_read_records.proofs.Frames.{sorted_ascends, sorted_at, sorted_between}
use Rattle.slip_read_paths.proofs.Found.{named_there, named_nowhere}
use Rattle.slip_read_paths.proofs.find.Goals as goal

pub find_place-found-requires : goal.find_place-found-requires
find_place-found-requires c = sorted_ascends _ _ c.requires.sorted

pub returns-in-Ok : goal.returns-in-Ok
unfolding on_from
returns-in-Ok c =
    let found = sorted_at _ _ c.requires.sorted _ _ _ c.in-Ok.is
    c.find_place-found.ensures in
    rw (named_there _ _ _ c.requires _ _ found.0 found.1) (to_place _ found.0)

pub returns-in-Err : goal.returns-in-Err
unfolding on_from
returns-in-Err c =
    let found = sorted_between _ _ c.requires.sorted _ _ _ c.in-Err.is
    c.find_place-found.ensures in
    rw (named_nowhere _ _ _ c.requires _ _ found) missing
