use Prim.Native.Nat.{◌+◌, ◌*◌, ◌<◌}
use mathlib.Core.Path.{◌≡◌}
use lib.ListN.{length, get_or}
use lib.Seq.{sets}
use Rattle.record_spec.specs.Reference.{TransactionLocator}
use Rattle.final_spec.specs.Finality.{blocks_of}
use Rattle.final_block_votes.specs.Walk.{block_at_place}
use Rattle.slip_spec.specs.Paths.{steps_from, path_to}
use Rattle.slip_spec.specs.Reading.{votes_as}
use Rattle.slip_write_distances.specs.Near.{Distances}
use Rattle.slip_write_routes.proofs.write_path.Given as goal

abbrev pub invariant-loop-left : goal.invariant-loop-left
invariant-loop-left l =
    ((l.p < length l.order) × (get_or l.near (128 * l.p + l.a) 0 ≡ l.left + 1))
    × ((l.to + l.left + 1 ≡ l.at + get_or l.near (128 * l.k + l.a) 0)
    × ((length l.out ≡ length l.initial.out)
    × ((loc : TransactionLocator) → Distances l.store l.order loc l.near l.steps (length l.order)
    → sets l.initial.out l.at (path_to (votes_as loc l.a) (blocks_of l.store) (block_at_place l.store l.order l.k)) ≡ sets l.out l.to
    (steps_from (votes_as loc l.a) (blocks_of l.store) l.left (block_at_place l.store l.order l.p)))))

abbrev pub decreases-loop-left : goal.decreases-loop-left
decreases-loop-left l = l.left
