use mathlib.Core.Path.{sym, ◌∙◌}
use Prim.Native.Nat.{◌<◌}
use native.Mathlib.Omega.{arith}
use borrow.Author.Count.{below_more}
use Rattle.base.proofs.Index.{all_yes, all_not}
use Rattle.committee_aggregator.specs.StakeAggregator.{aggregator_in_order}
use Rattle.pending_spec.specs.Items.{no_item}
use Rattle.pending_words.specs.Answers.{as_item}
use Rattle.pending_form.proofs.votes_in_order.Goals as goal

pub loop-k-init : goal.loop-k-init
loop-k-init c = (omega arith, λ j (h : j < 0). absurd (omega arith))

pub item_at-x-requires : goal.item_at-x-requires
item_at-x-requires c = (c.requires.1, omega arith)

pub returns-then-not-in_order : goal.returns-then-not-in_order
unfolding as_item
returns-then-not-in_order c =
    sym (all_not no_item (λ x. aggregator_in_order c.args.stakes.now
    x.aggregator) _ c.loop-k.k (omega arith)
    (rw (← c.item_at-x.ensures) (sym c.in_order.ensures ∙ c.if-not-in_order.true)))

pub loop-k-preserved : goal.loop-k-preserved
unfolding as_item
loop-k-preserved c = (
  omega arith,
  below_more _ _ c.loop-k.invariant.1
      (rw (← c.item_at-x.ensures) (sym c.in_order.ensures ∙ c.if-not-in_order.false)),
)

pub returns : goal.returns
returns c =
    sym (all_yes no_item (λ x. aggregator_in_order c.args.stakes.now x.aggregator) _
    (λ j h. c.loop-k.invariant.1 j (omega (arith, h))))
