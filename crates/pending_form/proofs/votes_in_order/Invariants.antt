use mathlib.Core.Bool.{true}
use mathlib.Core.Path.{◌≡◌}
use Prim.Native.Nat.{ℕ, ◌≤◌, ◌<◌, ◌-◌}
use lib.ListN.{get_or}
use Rattle.committee_aggregator.specs.StakeAggregator.{aggregator_in_order}
use Rattle.pending_spec.specs.Items.{no_item}
use Rattle.pending_spec.specs.Table.{items_of}
use Rattle.pending_form.proofs.votes_in_order.Given as goal

abbrev pub invariant-loop-k : goal.invariant-loop-k
invariant-loop-k l = (l.k ≤ l.n) × ((j : ℕ) → j < l.k → aggregator_in_order l.stakes (get_or (items_of l.t) j no_item).aggregator ≡ true)
