use mathlib.Core.Bool.{false}
use Prim.Native.Nat.{◌-◌}
use lib.ListN.{length}
use Rattle.record_spec.specs.Reference.{TransactionLocator}
use Rattle.final_spec.specs.Voters.{own_vote}
use Rattle.final_readings_spec.specs.Readings.{Reading}
use Rattle.list_include_sets.proofs.Gathering.{SaidBefore}
use Rattle.list_ancestry.specs.Heard.{Owned, HeardBelow}
use Rattle.list_walk.specs.Walk.{any_noted, CountedRight}
use Rattle.list_walk.proofs.Walking.{Going, Walking}
use Rattle.list_walk.proofs.walk.Given as goal

abbrev pub invariant-loop-k : goal.invariant-loop-k
invariant-loop-k l =
    Going l.stakes l.order l.memo l.certified l.blocks l.checked l.k
    × (((loc : TransactionLocator) → Owned false l.store l.order loc l.own → HeardBelow own_vote l.store l.order loc l.memo l.k
    × SaidBefore own_vote l.store l.order loc l.k l.below)
    × ((reading : Reading) (loc : TransactionLocator) → Owned false l.store l.order loc l.own → CountedRight
    (any_noted l.rejecters) reading l.store l.order loc l.rejecters → Walking reading l.stakes l.store loc l.order l.certified l.authors l.blocks l.k))
