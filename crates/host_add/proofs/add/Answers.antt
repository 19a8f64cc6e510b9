use Rattle.host_add.proofs.Added.{call_sound}
use Rattle.host_calls.specs.Calls.{encoded}
use Rattle.host_add.specs.Add.{told_number, numbered}
use Rattle.committee_vote_answer.specs.Answers.{as_add_answer}
use native.Mathlib.Omega.{arith}
use lib.Seq.{length-take-le}
use mathlib.Core.Path.{sym, ◌∙◌}
use Rattle.host_add.proofs.add.Goals as goal

named_value_aggregator_after : {P0 P1 : Type 0} → P0 × P1 → record { value : P0; aggregator_after : P1 }
named_value_aggregator_after p = record { value = p.0; aggregator_after = p.1 }

pub slice_bounds-add_of-end : goal.slice_bounds-add_of-end
slice_bounds-add_of-end c = sym (length-take-le c.stakes_of-n.result c.stakes_of-n.new.stakes
    (omega (arith, c.stakes_of-n.auto.stakes, c.stakes_of-n.ensures.0)))

pub returns-in-Ok-RepeatedBelow : goal.returns-in-Ok-RepeatedBelow
unfolding as_add_answer numbered told_number encoded
returns-in-Ok-RepeatedBelow c = named_value_aggregator_after (call_sound _ _ _ c.add_of.result _
    c.stakes_of-n.ensures.1 c.add_of.ensures
    (rw (c.in-Ok-RepeatedBelow.is, c.in-Ok-RepeatedBelow.field-0-is)))

pub returns-in-Ok-RepeatedWith : goal.returns-in-Ok-RepeatedWith
unfolding as_add_answer numbered told_number encoded
returns-in-Ok-RepeatedWith c = named_value_aggregator_after (call_sound _ _ _ c.add_of.result _
    c.stakes_of-n.ensures.1 c.add_of.ensures
    (rw (c.in-Ok-RepeatedWith.is, c.in-Ok-RepeatedWith.field-0-is)))

pub returns-in-Ok-NewBelow : goal.returns-in-Ok-NewBelow
unfolding as_add_answer numbered told_number encoded
returns-in-Ok-NewBelow c = named_value_aggregator_after (call_sound _ _ _ c.add_of.result _
    c.stakes_of-n.ensures.1 c.add_of.ensures
    (rw (c.in-Ok-NewBelow.is, c.in-Ok-NewBelow.field-0-is)))

pub returns-then-crossed : goal.returns-then-crossed
unfolding as_add_answer numbered told_number encoded
returns-then-crossed c = named_value_aggregator_after (call_sound _ _ _ c.add_of.result _
    c.stakes_of-n.ensures.1
    c.add_of.ensures (rw (c.in-Ok-NewWith.is, c.in-Ok-NewWith.field-0-is, c.if-crossed.true)))

pub returns-else-crossed : goal.returns-else-crossed
unfolding as_add_answer numbered told_number encoded
returns-else-crossed c = named_value_aggregator_after (call_sound _ _ _ c.add_of.result _
    c.stakes_of-n.ensures.1
    c.add_of.ensures (rw (c.in-Ok-NewWith.is, c.in-Ok-NewWith.field-0-is, c.if-crossed.false)))

pub returns-in-Err : goal.returns-in-Err
unfolding as_add_answer numbered told_number encoded
returns-in-Err c = named_value_aggregator_after (call_sound _ _ _ c.add_of.result _
    c.stakes_of-n.ensures.1
    c.add_of.ensures (c.refused.ensures ∙ rw c.in-Err.is))
