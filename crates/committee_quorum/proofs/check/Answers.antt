use mathlib.Core.Path.{◌≡◌, refl}
use Rattle.committee.specs.Committee.{is_quorum}
use Rattle.committee_quorum.specs.Sure.{Sure}
use Rattle.committee_quorum.proofs.check.Goals as goal

pub returns-then-last-voters-2 : goal.returns-then-last-voters-2
unfolding Sure
returns-then-last-voters-2 c = let a = c.args in
    let e : a.last.voters.low ≡ a.voters.low = c.if-last-voters.true in
    let f : a.last.voters.high ≡ a.voters.high = c.if-last-voters-2.true in
    (λ i. record { low = e i; high = f i }, c.requires.1)

pub returns : goal.returns
unfolding Sure is_quorum
returns c = (refl, rw (← c.requires.0.1, ← c.stake_of.ensures) c.is_quorum-quorum.ensures)
