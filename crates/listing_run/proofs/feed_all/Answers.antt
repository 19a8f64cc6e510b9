use Rattle.std.proofs.Common.{arith}
use Rattle.listing_feed_steps.proofs.Feeds.{fed_none, fed_on}
use Rattle.listing_run.proofs.feed_all.Goals as goal

pub loop-turn-init : goal.loop-turn-init
loop-turn-init g c = ((omega arith, (omega arith, (omega arith, omega arith))), fed_none _ _ _)

pub returns-in_err-fed : goal.returns-in_err-fed
returns-in_err-fed g c = fed_on c.loop-turn.invariant.1 c.next_record.ensures.fed_from

pub returns-then-fed : goal.returns-then-fed
returns-then-fed g c = fed_on c.loop-turn.invariant.1 c.next_record.ensures.fed_from

pub loop-turn-preserved : goal.loop-turn-preserved
loop-turn-preserved g c =
    let after = c.in_ok-fed.ensures.counted_after in (
      (omega (arith, after.number), (after.accepted, (after.refusals, after.processed))),
      fed_on c.loop-turn.invariant.1 c.next_record.ensures.fed_from,
    )
