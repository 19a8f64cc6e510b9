use mathlib.Core.Path.{◌≡◌, sym, ◌∙◌}
use native.Mathlib.Omega.{arith}
use mathlib.Core.Bool.{true, false}
use Rattle.slip_read_body.specs.Step.{TookCertifiers, TookSlip}
use Rattle.slip_read_body.proofs.Certifying.{slip_none}
use Rattle.slip_read_body.proofs.Gathering.{after_all, all_found, all_quorum}
use Rattle.slip_read_body.proofs.take_slip.Goals as goal

pub take_certifiers-requires : goal.take_certifiers-requires
take_certifiers-requires c = c.requires

pub returns-in_err-end : goal.returns-in_err-end
unfolding TookSlip TookCertifiers
returns-in_err-end c = rw c.from_residual.ensures (slip_none _ c.requires.0 c.in_err-end.ensures)

pub returns-then-end-slip : goal.returns-then-end-slip
unfolding TookSlip TookCertifiers
returns-then-end-slip c =
    let read = c.in_ok-end.ensures in
    after_all _ _ _ _ _ _ _ _ _ _ c.requires.1.sound
    c.requires.0 read
    (λ (e : _ ≡ _). omega (arith, e, c.if-end-slip.true))

pub returns-then-shown-ne0 : goal.returns-then-shown-ne0
unfolding TookSlip TookCertifiers
returns-then-shown-ne0 c =
    let read = c.in_ok-end.ensures in
    all_found _ _ _ _ _ _ _ _ _ _ c.requires.1.sound
    c.requires.0 read
    (omega (arith, c.if-end-slip.false)) c.if-shown-ne0.true

pub hold_quorum-requires : goal.hold_quorum-requires
hold_quorum-requires c = (
  c.requires.1.sound,
  c.requires.1.all,
)

pub returns-then-hold_quorum : goal.returns-then-hold_quorum
unfolding TookSlip TookCertifiers
returns-then-hold_quorum c =
    let read = c.in_ok-end.ensures in
    all_quorum _ _ _ _ _ _ _ _ _ _ c.requires.1.sound c.requires.0
    read (omega (arith, c.if-end-slip.false)) true c.if-shown-ne0.false (sym c.if-hold_quorum.true ∙ c.hold_quorum.ensures)

pub returns : goal.returns
unfolding TookSlip TookCertifiers
returns c =
    let read = c.in_ok-end.ensures in
    all_quorum _ _ _ _ _ _ _ _ _ _ c.requires.1.sound c.requires.0
    read (omega (arith, c.if-end-slip.false)) false c.if-shown-ne0.false (sym c.if-hold_quorum.false ∙ c.hold_quorum.ensures)
