use mathlib.Core.Path.{refl}
use native.Mathlib.Omega.{arith}
use Rattle.record_statement.specs.Values.{as_statement}
use Rattle.record_statement.specs.Step.{payload_between, Took}
use Rattle.record_statement.proofs.Steps.{reject_cut, reject_reads, reject_bad, reject_short, reject_for_reads}
use Rattle.record_statement.proofs.take_reject.Goals as goal

pub returns-then-s-at-lt58 : goal.returns-then-s-at-lt58
unfolding Took
returns-then-s-at-lt58 c =
    let o = c in
    let s = o.args.s.now in
    let p = o.args.at in
    reject_cut s p o.requires.0 o.requires.1 (omega arith)

pub returns-then-more-eq0 : goal.returns-then-more-eq0
unfolding Took as_statement payload_between
returns-then-more-eq0 c =
    let o = c in
    let s = o.args.s.now in
    let p = o.args.at in
    (rw c.read_locator-locator.ensures (reject_reads s p o.requires.0 o.requires.1 (omega arith) c.if-more-eq0.true), (omega arith, refl))

pub returns-then-more-ne1 : goal.returns-then-more-ne1
unfolding Took
returns-then-more-ne1 c =
    let o = c in
    let s = o.args.s.now in
    let p = o.args.at in
    reject_bad s p o.requires.0 o.requires.1 (omega arith) c.if-more-eq0.false c.if-more-ne1.true

pub returns-then-s-at-lt114 : goal.returns-then-s-at-lt114
unfolding Took
returns-then-s-at-lt114 c =
    let o = c in
    let s = o.args.s.now in
    let p = o.args.at in
    reject_short s p o.requires.0 o.requires.1 (omega arith) c.if-more-ne1.false (omega arith)

pub returns : goal.returns
unfolding Took as_statement payload_between
returns c =
    let o = c in
    let s = o.args.s.now in
    let p = o.args.at in (
      rw (c.read_locator-locator.ensures, c.read_locator-other.ensures)
          (reject_for_reads s p o.requires.0 o.requires.1 (omega arith) c.if-more-ne1.false),
      (omega arith, refl),
    )
