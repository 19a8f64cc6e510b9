use Rattle.list_include_sets.specs.Sets.{with_place}
use Rattle.list_include_sets.proofs.put.Goals as goal

-- src/lib.rt:29:13

-- src/lib.rt:29:13

-- src/lib.rt:30:15

-- src/lib.rt:30:15

-- src/lib.rt:30:25

-- src/lib.rt:30:5

-- src/lib.rt:30:5

-- src/lib.rt:25:1

-- src/lib.rt:25:1

pub returns : goal.returns
unfolding with_place
returns c = rw c.mask.ensures
