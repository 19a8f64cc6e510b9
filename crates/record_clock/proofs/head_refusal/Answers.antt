use mathlib.Core.Path.{sym, ◌∙◌}
use lib.ListN.{length}
use borrow.Author.Tests.{eq-eqb, ne_eqb}
use Rattle.record_spec.specs.Record.{block_in}
use Rattle.types.proofs.References.{as_author, as_round}
use Rattle.record_check_includes.proofs.Includes.{lookup_known}
use Rattle.record_clock.proofs.Checking.{head_is}
use Rattle.committee.proofs.Answers.{unknown_sound}
use Rattle.record_clock.proofs.head_refusal.Goals as goal

pub returns-in_default : goal.returns-in_default
returns-in_default c =
    let r = c in
    let o = r in
    let k = o.args.stakes.now in
    let b = block_in o.args.rec.now in
    let a = as_author r.reference-reference.result b.reference r.reference-reference.ensures in
    let n = as_round r.reference-reference.result b.reference r.reference-reference.ensures in
    let no = unknown_sound k b.reference.authority (rw a at (sym c.get_stake.ensures ∙ c.in_default.is)) in
    sym (head_is k b ∙ rw no)

pub returns-then-reference-ne0 : goal.returns-then-reference-ne0
returns-then-reference-ne0 c =
    let r = c in
    let o = r in
    let k = o.args.stakes.now in
    let b = block_in o.args.rec.now in
    let a = as_author r.reference-reference.result b.reference r.reference-reference.ensures in
    let n = as_round r.reference-reference.result b.reference r.reference-reference.ensures in
    let yes = lookup_known k b.reference.authority _ (rw a at
    (sym c.get_stake.ensures ∙ c.in-Some.is)) in
    sym (head_is k b ∙ rw (yes, ne_eqb b.reference.round 0 (λ e. c.if-reference-ne0.true (n ∙ e))))

pub returns-then-include_count-ne0 : goal.returns-then-include_count-ne0
returns-then-include_count-ne0 c =
    let r = c in
    let o = r in
    let k = o.args.stakes.now in
    let b = block_in o.args.rec.now in
    let a = as_author r.reference-reference.result b.reference r.reference-reference.ensures in
    let n = as_round r.reference-reference.result b.reference r.reference-reference.ensures in
    let yes = lookup_known k b.reference.authority _ (rw a at
    (sym c.get_stake.ensures ∙ c.in-Some.is)) in
    sym (head_is k b ∙ rw (
      yes,
      eq-eqb b.reference.round 0 (sym n ∙ c.if-reference-ne0.false),
      ne_eqb (length b.includes) 0
          (λ e. c.if-include_count-ne0.true (c.include_count.ensures ∙ e)),
    ))

pub returns-then-statement_count-ne0 : goal.returns-then-statement_count-ne0
returns-then-statement_count-ne0 c =
    let r = c in
    let o = r in
    let k = o.args.stakes.now in
    let b = block_in o.args.rec.now in
    let a = as_author r.reference-reference.result b.reference r.reference-reference.ensures in
    let n = as_round r.reference-reference.result b.reference r.reference-reference.ensures in
    let yes = lookup_known k b.reference.authority _ (rw a at
    (sym c.get_stake.ensures ∙ c.in-Some.is)) in
    sym (head_is k b ∙ rw (
      yes,
      eq-eqb b.reference.round 0 (sym n ∙ c.if-reference-ne0.false),
      eq-eqb (length b.includes) 0
          (sym c.include_count.ensures ∙ c.if-include_count-ne0.false),
      ne_eqb (length b.statements) 0
          (λ e. c.if-statement_count-ne0.true (c.statement_count.ensures ∙ e)),
    ))

pub returns : goal.returns
returns c =
    let r = c in
    let o = r in
    let k = o.args.stakes.now in
    let b = block_in o.args.rec.now in
    let a = as_author r.reference-reference.result b.reference r.reference-reference.ensures in
    let n = as_round r.reference-reference.result b.reference r.reference-reference.ensures in
    let yes = lookup_known k b.reference.authority _ (rw a at
    (sym c.get_stake.ensures ∙ c.in-Some.is)) in
    sym (head_is k b ∙ rw (
      yes,
      eq-eqb b.reference.round 0 (sym n ∙ c.if-reference-ne0.false),
      eq-eqb (length b.includes) 0
          (sym c.include_count.ensures ∙ c.if-include_count-ne0.false),
      eq-eqb (length b.statements) 0
          (sym c.statement_count.ensures ∙ c.if-statement_count-ne0.false),
    ))
