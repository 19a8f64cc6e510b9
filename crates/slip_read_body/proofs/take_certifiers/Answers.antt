use mathlib.Core.Path.{sym, ◌∙◌}
use native.Mathlib.Omega.{arith}
use Rattle.slip_read_certifier.specs.Step.{TookCertifier}
use Rattle.slip_read_body.specs.Step.{TookCertifiers}
use Rattle.slip_read_body.proofs.Certifying.{head_long}
use Rattle.slip_read_body.proofs.Gathering.{gathering_start, gathering_none, gathering_falls, gathering_on, gathering_done}
use Rattle.slip_read_body.proofs.take_certifiers.Goals as goal

pub read_u16-count-requires : goal.read_u16-count-requires
read_u16-count-requires c = omega (
  arith,
  head_long c.args.slip.now
      c.requires.0,
)

pub loop-i-init : goal.loop-i-init
loop-i-init c = rw c.new-authors.ensures (gathering_start _ _ _ _ _ _ _
    (head_long c.args.slip.now
    c.requires.0))

pub take_certifier-requires : goal.take_certifier-requires
take_certifier-requires c = (
  c.loop-i.invariant.listed.inside,
  c.requires.1,
)

pub returns-in_err-end : goal.returns-in_err-end
unfolding TookCertifiers TookCertifier
returns-in_err-end c =
    rw c.from_residual.ensures (gathering_none _ _ _ _ _ _ _ _ _ _ _ _ c.loop-i.invariant
    (omega (arith, c.read_u16-count.ensures)) c.in_err-end.ensures)

pub follows-requires : goal.follows-requires
unfolding TookCertifier
follows-requires c =
    let one = c.in_ok-end.ensures in
    (c.loop-i.invariant.back, omega (arith, one.long))

pub returns-then-not-follows : goal.returns-then-not-follows
unfolding TookCertifiers TookCertifier
returns-then-not-follows c =
    let one = c.in_ok-end.ensures in
    gathering_falls _ _ _ _ _ _ _ _ _ _ _ _ c.loop-i.invariant
    (omega (arith, c.read_u16-count.ensures)) _ _ one
    (sym c.follows.ensures ∙ c.if-not-follows.true)

pub read_u64-author-requires : goal.read_u64-author-requires
unfolding TookCertifier
read_u64-author-requires c =
    let one = c.in_ok-end.ensures in
    omega (arith, one.long)

pub loop-i-preserved : goal.loop-i-preserved
unfolding TookCertifier
loop-i-preserved c =
    let one = c.in_ok-end.ensures in
    gathering_on _ _ _ _ _ _ _ _ _ _ _ _ c.loop-i.invariant
    (omega (arith, c.read_u16-count.ensures)) _ _ one _ _ _
    (sym c.follows.ensures ∙ c.if-not-follows.false) c.read_u64-author.ensures c.with_author-authors.ensures c.worse-shown.ensures

pub returns : goal.returns
unfolding TookCertifiers
returns c = gathering_done _ _ _ _ _ _ _ _ _ _ _ _ c.loop-i.invariant (omega (arith, c.read_u16-count.ensures))
