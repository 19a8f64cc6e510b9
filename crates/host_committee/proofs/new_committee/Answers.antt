use mathlib.Core.Bool.{true, false}
use mathlib.Core.Path.{sym, ◌∙◌}
use lib.Seq.{length-take-le}
use native.Mathlib.Omega.{arith}
use Rattle.committee.specs.Answers.{as_new_committee}
use Rattle.host_calls.specs.Calls.{encoded}
use Rattle.host_calls.proofs.Calls.{call_ragged, call_many, call_held}
use Rattle.host_committee.proofs.new_committee.Goals as goal

pub returns-then-stakes-ne0 : goal.returns-then-stakes-ne0
unfolding encoded
returns-then-stakes-ne0 c = c.refused.ensures ∙ rw (call_ragged c.args.stakes.now c.if-stakes-ne0.true)

pub returns-then-has_zero_word : goal.returns-then-has_zero_word
unfolding encoded
returns-then-has_zero_word c = c.refused-then-has_zero_word.ensures ∙ rw (call_many c.args.stakes.now (omega arith) c.if-stakes-gt-MAX_MEMBERS.true true
    (sym c.has_zero_word.ensures ∙ c.if-has_zero_word.true))

pub returns-then-stakes-gt-MAX_MEMBERS : goal.returns-then-stakes-gt-MAX_MEMBERS
unfolding encoded
returns-then-stakes-gt-MAX_MEMBERS c = c.refused-then-stakes-gt-MAX_MEMBERS.ensures
    ∙ rw (call_many c.args.stakes.now (omega arith) c.if-stakes-gt-MAX_MEMBERS.true false
    (sym c.has_zero_word.ensures ∙ c.if-has_zero_word.false))

pub slice_bounds-new_committee-end : goal.slice_bounds-new_committee-end
slice_bounds-new_committee-end c = sym (length-take-le c.stakes_of-n.result c.stakes_of-n.new.stakes
    (omega (arith, c.stakes_of-n.auto.stakes, c.stakes_of-n.ensures.0)))

pub returns-in-Ok : goal.returns-in-Ok
unfolding encoded as_new_committee
returns-in-Ok c =
    let s = c.args.stakes.now in
    let told = c.new_committee.ensures in
    rw (
      call_held s (omega arith) c.if-stakes-gt-MAX_MEMBERS.false,
      ← c.stakes_of-n.ensures.1,
      ← told,
      c.in-Ok.is,
    )

pub returns-in-Err : goal.returns-in-Err
unfolding encoded as_new_committee
returns-in-Err c =
    let s = c.args.stakes.now in
    let told = c.new_committee.ensures in
    c.refused-in-Err.ensures ∙ rw (
      call_held s (omega arith) c.if-stakes-gt-MAX_MEMBERS.false,
      ← c.stakes_of-n.ensures.1,
      ← told,
      c.in-Err.is,
    )
