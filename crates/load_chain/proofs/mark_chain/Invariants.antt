use mathlib.Core.Path.{◌≡◌}
use lib.ListN.{length}
use Rattle.types.specs.Values.{as_locator}
use Rattle.load_chain.proofs.Chains.{Collecting}
use Rattle.load_chain.proofs.mark_chain.Given as goal

abbrev pub invariant-loop-place : goal.invariant-loop-place
invariant-loop-place l = Collecting l.store l.order (as_locator l.initial.change) l.marks (as_locator l.change) × (length l.marks ≡ length l.initial.marks)

abbrev pub decreases-loop-place : goal.decreases-loop-place
decreases-loop-place l = (as_locator l.change).block.round
