use Rattle.std.proofs.Common.{◌-◌, ◌^◌, ◌<◌}
use Rattle.pending_spec.specs.Table.{items_of}
use Rattle.listing_counts.proofs.Pending.{Summed}
use Rattle.listing_counts.proofs.pending_offsets.Given as goal

abbrev pub invariant-loop-k : goal.invariant-loop-k
invariant-loop-k l = Summed (items_of l.table) l.k l.sum × (l.sum < 2 ^ 64)
