use Prim.Native.Nat.{◌*◌}
use mathlib.Core.Path.{◌≡◌, sym, ◌∙◌}
use lib.ListN.{length}
use lib.Seq.{length-take-le}
use native.Mathlib.Omega.{arith}
use Rattle.host_calls.specs.Calls.{encoded}
use Rattle.host_stakes.proofs.Stakes.{put_other, put_front}
use Rattle.host_stakes.proofs.put_stakes.Goals as goal

pub returns-then-stakes-ne1024 : goal.returns-then-stakes-ne1024
unfolding encoded
returns-then-stakes-ne1024 c =
    let start = c.args in
    let e = put_other start.members.now start.stakes.now (λ (z : length start.stakes.now ≡ 1024). omega arith) in
    (c.refused.ensures ∙ rw e, rw e)

pub slice_bounds-bytes_of-end-2 : goal.slice_bounds-bytes_of-end-2
slice_bounds-bytes_of-end-2 c =
    let start = c.args in
    sym (length-take-le (8 * length start.members.now) start.stakes.now (omega arith))

pub bytes_of-requires : goal.bytes_of-requires
bytes_of-requires c =
    let start = c.args in
    length-take-le (8 * length start.members.now) start.stakes.now (omega arith)

pub returns : goal.returns
unfolding encoded
returns c =
    let start = c in
    let e = put_front start.args.members.now start.args.stakes.now (omega arith) start.requires in
    (rw e, rw (e, c.bytes_of.ensures))
