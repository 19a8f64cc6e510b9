use Rattle.std.proofs.Common.{◌≡◌, true, false}
use borrow.Author.Tests.{not-true, not-false}
use Rattle.types.specs.Values.{as_maybe}
use Rattle.listing_run.proofs.Counting.{going_start, going_end, going_on}
use Rattle.listing_run.proofs.print_list.Goals as goal

pub loop-turn-init : goal.loop-turn-init
unfolding as_maybe
loop-turn-init g c = λ o. going_start _ _

pub returns-then-not-asked : goal.returns-then-not-asked
returns-then-not-asked g c = λ o.
    let more : c.ask-asked.result.more ≡ false = not-true c.ask-asked.result.more c.if-not-asked.true in
    rw c.wrapping_add_u64-finals.ensures.value
    (going_end _ _ _ _ _ _ _ _ (rw o at c.ask-asked.ensures.result_value) (rw o at c.ask-asked.ensures.stretches_after)
    (c.loop-turn.invariant o) c.in_ok-listed.ensures more)

pub loop-turn-preserved : goal.loop-turn-preserved
loop-turn-preserved g c = λ o.
    let more : c.ask-asked.result.more ≡ true = not-false c.ask-asked.result.more c.if-not-asked.false in
    rw (c.wrapping_add_u64-finals.ensures.value, c.last_locator-after.ensures)
    (going_on _ _ _ _ _ _ _ _ (rw o at c.ask-asked.ensures.result_value) (rw o at c.ask-asked.ensures.stretches_after)
    (c.loop-turn.invariant o) c.in_ok-listed.ensures more)
