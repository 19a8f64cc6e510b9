use mathlib.Core.Bool.{Bool}
use Prim.Native.Nat.{◌-◌}
use lib.ListN.{length}
use Rattle.record_spec.specs.Reference.{TransactionLocator}
use Rattle.final_block_rejects.specs.Speeches.{speech_of}
use Rattle.list_include_sets.proofs.Gathering.{SaidBefore}
use Rattle.list_ancestry.specs.Heard.{Owned, HeardBelow}
use Rattle.list_ancestry.proofs.Spreading.{Going}
use Rattle.list_ancestry.proofs.spread.Given as goal

abbrev pub invariant-loop-k : goal.invariant-loop-k
invariant-loop-k l = Going l.order l.memo l.k ×
    ((rejecting : Bool) (who : TransactionLocator) → Owned rejecting l.store l.order who l.own → HeardBelow (speech_of rejecting) l.store l.order who
    l.memo l.k × SaidBefore (speech_of rejecting) l.store l.order who l.k l.below)
