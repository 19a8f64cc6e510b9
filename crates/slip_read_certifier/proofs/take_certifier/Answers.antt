use mathlib.Core.Path.{sym, ap, subst, ◌∙◌}
use mathlib.Core.Bool.{true, false}
use native.Mathlib.Omega.{arith}
use Prim.Native.Nat.{ℕ, ◌+◌}
use Rattle.record_spec.specs.Reference.{BlockReference}
use Rattle.slip_spec.specs.Paths.{named, to_block, on_from}
use Rattle.slip_spec.specs.Supplied.{supplied_blocks}
use Rattle.slip_read_verdicts.specs.Verdict.{worse}
use Rattle.slip_read_paths.specs.Walk.{LedTo}
use Rattle.slip_read_paths.proofs.Walks.{in_place}
use Rattle.slip_read_voters.specs.Step.{TookVoters}
use Rattle.slip_read_ancestry.proofs.Lost.{in_longer}
use Rattle.slip_read_rejecters.proofs.Rejecters.{in_table}
use Rattle.slip_read_certifier.specs.Step.{TookCertifier}
use Rattle.slip_read_certifier.proofs.Certifying.{certifier_short, certifier_none}
use Rattle.slip_read_certifier.proofs.Showing.{one_found, one_quorum}
use Rattle.slip_read_certifier.proofs.take_certifier.Goals as goal

pub returns-then-slip-at-lt49 : goal.returns-then-slip-at-lt49
unfolding TookCertifier
returns-then-slip-at-lt49 c = certifier_short c.args.slip.now
    c.args.held.at (omega arith)

pub find-certifier-requires : goal.find-certifier-requires
find-certifier-requires c = c.requires.1.places

pub overflow_cast-count : goal.overflow_cast-count
overflow_cast-count c = omega (
  arith,
  c.shared_slice_known-8-1.given (c.args.held.at + 48),
)

pub take_voters-requires : goal.take_voters-requires
take_voters-requires c = (
  omega arith,
  (
    c.requires.1.places,
    (in_place _ _ _ _ c.find-certifier.ensures, c.requires.1.room),
  ),
)

pub returns-in_err-end : goal.returns-in_err-end
unfolding TookCertifier TookVoters
returns-in_err-end c = rw c.from_residual.ensures (certifier_none c.args.slip.now c.args.held.at (omega arith) (c.in_err-end.ensures))

pub own_verdict-requires : goal.own_verdict-requires
own_verdict-requires c = (
  c.requires.1.places,
  in_place _ _ _ _ c.find-certifier.ensures,
)

pub standing_verdict-standing-requires : goal.standing_verdict-standing-requires
standing_verdict-standing-requires c = let p = in_place _ _ _ _ c.find-certifier.ensures in (
  in_longer _ _ _ c.requires.1.lack_room p,
  in_table _ _ _ c.requires.1.reject_room p,
)

pub returns-then-shows-ne0 : goal.returns-then-shows-ne0
unfolding TookCertifier TookVoters
returns-then-shows-ne0 c =
    let a = c.args in
    let ready = c.requires.1 in
    let read = c.in_ok-end.ensures in
    let led = subst (λ (x : BlockReference). LedTo a.records.now a.order.now
    c.find-certifier.result
    (on_from to_block (named (supplied_blocks a.records.now) x)))
    c.read_reference.ensures
    c.find-certifier.ensures in
    one_found _ a.slip.now a.held.at _ _ _ _ _ _ _ _ _ _ _ ready.sound ready.right ready.places (omega arith) read led
    c.own_verdict.ensures c.standing_verdict-standing.ensures _
    (c.worse-shows.ensures ∙ ap (λ (x : ℕ). worse x c.standing_verdict-standing.result) c.worse-given.ensures)
    c.if-shows-ne0.true

pub hold_quorum-requires : goal.hold_quorum-requires
hold_quorum-requires c = (
  c.requires.1.sound,
  c.requires.1.all,
)

pub returns-then-hold_quorum : goal.returns-then-hold_quorum
unfolding TookCertifier TookVoters
returns-then-hold_quorum c =
    let a = c.args in
    let ready = c.requires.1 in
    let read = c.in_ok-end.ensures in
    let led = subst (λ (x : BlockReference). LedTo a.records.now a.order.now
    c.find-certifier.result
    (on_from to_block (named (supplied_blocks a.records.now) x)))
    c.read_reference.ensures
    c.find-certifier.ensures in
    one_quorum _ a.slip.now a.held.at _ _ _ _ _ _ _ _ _ _ _ ready.sound ready.right ready.places (omega arith) read led
    c.own_verdict.ensures c.standing_verdict-standing.ensures _ true
    (c.worse-shows.ensures ∙ ap (λ (x : ℕ). worse x c.standing_verdict-standing.result)
    c.worse-given.ensures) c.if-shows-ne0.false (sym c.if-hold_quorum.true ∙ c.hold_quorum.ensures)

pub returns : goal.returns
unfolding TookCertifier TookVoters
returns c =
    let a = c.args in
    let ready = c.requires.1 in
    let read = c.in_ok-end.ensures in
    let led = subst (λ (x : BlockReference). LedTo a.records.now a.order.now
    c.find-certifier.result
    (on_from to_block (named (supplied_blocks a.records.now) x)))
    c.read_reference.ensures
    c.find-certifier.ensures in
    one_quorum _ a.slip.now a.held.at _ _ _ _ _ _ _ _ _ _ _ ready.sound ready.right ready.places (omega arith) read led
    c.own_verdict.ensures c.standing_verdict-standing.ensures _ false
    (c.worse-shows.ensures ∙ ap (λ (x : ℕ). worse x c.standing_verdict-standing.result)
    c.worse-given.ensures) c.if-shows-ne0.false (sym c.if-hold_quorum.false ∙ c.hold_quorum.ensures)
