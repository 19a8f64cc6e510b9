use mathlib.Core.Path.{◌≡◌}
use Prim.Native.Nat.{◌-◌, ◌*◌, ◌≤◌}
use lib.ListN.{length}
use Rattle.load_share_count.specs.Through.{shares_through}
use Rattle.load_share_count.proofs.count_shares.Given as goal

abbrev pub invariant-loop-k : goal.invariant-loop-k
invariant-loop-k l = (l.k ≤ length l.order) × (l.n ≡ length (shares_through l.store l.order l.k)) × (l.n ≤ 1024 * l.k)
