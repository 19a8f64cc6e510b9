use native.Mathlib.Omega.{arith}
use lib.ListN.{length}
use borrow.Author.Tests.{le-leb, lt-leb}
use Rattle.stakes_chain.specs.Layout.{well_sized}
use Rattle.stakes_chain.proofs.well_sized.Goals as goal

pub returns-then-file-gt-MOST_BYTES : goal.returns-then-file-gt-MOST_BYTES
unfolding well_sized
returns-then-file-gt-MOST_BYTES c = rw (lt-leb (length c.args.file.now) 65536 (omega arith))

pub returns-then-file-lt2 : goal.returns-then-file-lt2
unfolding well_sized
returns-then-file-lt2 c =
    rw (le-leb (length c.args.file.now) 65536 (omega arith), lt-leb 2 (length c.args.file.now) (omega arith))

pub returns : goal.returns
unfolding well_sized
returns c =
    rw (le-leb (length c.args.file.now) 65536 (omega arith), le-leb 2 (length c.args.file.now) (omega arith))
