use mathlib.Core.Path.{subst}
use mathlib.Core.Bool.{true, false}
use Rattle.committee_set.specs.AuthoritySet.{AuthoritySet}
use Rattle.slip_read_paths.specs.Walk.{InPlace}
use Rattle.slip_read_paths.proofs.Walks.{led_block, led_nowhere, led_missing, from_block, from_none, from_somewhere}
use Rattle.slip_read_rejecters.specs.Rejecting.{InTable, Meeting}
use Rattle.slip_read_certifier.specs.Verdict.{standing_verdict}
use Rattle.slip_read_certifier.specs.Step.{Stands}
use Rattle.slip_read_certifier.proofs.Standing.{stands_lost, stands_rejected, stands_kept}
use Rattle.slip_read_certifier.proofs.standing_verdict.Goals as goal

pub bounds-lacking-place : goal.bounds-lacking-place
unfolding InPlace
bounds-lacking-place c = subst (InPlace c.args.lacking.now) c.in-To.is
    c.requires.0

pub returns-then-lacking-place-eq1 : goal.returns-then-lacking-place-eq1
unfolding Stands
returns-then-lacking-place-eq1 c = λ reading q order l vs o fit p n k speak d.
    let x = led_block q order _ _ _ c.in-To.is d in
    rw (from_block o _ x.1) (stands_lost reading q order l vs fit p _ _ n k _ x.0 c.if-lacking-place-eq1.true)

pub set_at-requires : goal.set_at-requires
unfolding InTable
set_at-requires c = subst (InTable c.args.rejecting.now)
    c.in-To.is c.requires.1

pub returns-then-meet : goal.returns-then-meet
unfolding Stands
returns-then-meet c = λ reading q order l vs o fit p n k speak d.
    let x = led_block q order _ _ _ c.in-To.is d in
    let e = subst (Meeting c.args.voters
    c.set_at.result) c.if-meet.true c.meet.ensures in
    rw (from_block o _ x.1) (stands_rejected reading q order l vs fit p _ _ n k _ x.0 c.if-lacking-place-eq1.false _ speak
    (subst (λ (w : AuthoritySet). Meeting c.args.voters w true)
    c.set_at.ensures e))

pub returns-else-meet : goal.returns-else-meet
unfolding Stands
returns-else-meet c = λ reading q order l vs o fit p n k speak d.
    let x = led_block q order _ _ _ c.in-To.is d in
    let e = subst (Meeting c.args.voters
    c.set_at.result) c.if-meet.false c.meet.ensures in
    rw (from_block o _ x.1) (stands_kept reading q order l vs fit p _ _ n k _ x.0 c.if-lacking-place-eq1.false _ speak
    (subst (λ (w : AuthoritySet). Meeting c.args.voters w false)
    c.set_at.ensures e))

pub returns-in-Nowhere : goal.returns-in-Nowhere
unfolding Stands standing_verdict
returns-in-Nowhere c = λ reading q order l vs o fit p n k speak d. absurd (from_somewhere o (led_nowhere q order _ _ c.in-Nowhere.is d))

pub returns-in-NotGiven : goal.returns-in-NotGiven
unfolding Stands standing_verdict
returns-in-NotGiven c = λ reading q order l vs o fit p n k speak d. rw (from_none o (led_missing q order _ _ c.in-NotGiven.is d))
