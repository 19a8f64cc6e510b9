use mathlib.Core.Path.{sym, ◌∙◌}
use borrow.Author.Tests.{eq-eqb, ne_eqb}
use Rattle.base.proofs.Refusals.{zero_passes, number_not_zero}
use Rattle.std.proofs.lemmas.Result.{err_from_is_err_and}
use Rattle.record_spec.specs.Record.{block_in}
use Rattle.types.proofs.References.{as_round}
use Rattle.record_check_includes.proofs.Includes.{of_includes, includes_numbered}
use Rattle.record_check_statements.proofs.Statements.{of_statements}
use Rattle.record_clock.proofs.Checking.{body_includes, body_statements, body_clock}
use Rattle.record_clock.proofs.body_refusal.Goals as goal

pub returns-in_err-includes_refusal : goal.returns-in_err-includes_refusal
unfolding of_includes
returns-in_err-includes_refusal c =
    let k = c.args.stakes.now in
    let b = block_in c.args.rec.now in
    let told = c.in_err-includes_refusal.ensures in
    let p = err_from_is_err_and c.from_residual.result c.from_residual.ensures.1 in
    rw (p.1, p.2) (told ∙ sym (body_includes k b (λ e. number_not_zero c.in_err-includes_refusal.field-0.0 (told ∙ e))))

pub returns-in_err-statements_refusal : goal.returns-in_err-statements_refusal
unfolding of_includes of_statements
returns-in_err-statements_refusal c =
    let k = c.args.stakes.now in
    let b = block_in c.args.rec.now in
    let told = c.in_err-statements_refusal.ensures in
    let p = err_from_is_err_and c.from_residual-in_err-statements_refusal.result c.from_residual-in_err-statements_refusal.ensures.1 in
    rw (p.1, p.2) (told ∙ sym (body_statements k b (sym c.in_ok-includes_refusal.ensures)
    (λ e. number_not_zero c.in_err-statements_refusal.field-0.0 (told ∙ e))))

pub returns-then-reference-eq0 : goal.returns-then-reference-eq0
unfolding of_includes of_statements
returns-then-reference-eq0 c =
    let i = c in
    let o = i in
    let k = o.args.stakes.now in
    let b = block_in o.args.rec.now in
    let r = c in
    let s = r in
    let n = as_round r.reference-reference.result b.reference r.reference-reference.ensures in
    let clock = body_clock k b (sym c.in_ok-includes_refusal.ensures)
    (sym c.in_ok-statements_refusal.ensures) in
    sym (clock ∙ rw (eq-eqb b.reference.round 0 (sym n ∙ c.if-reference-eq0.true)))

pub threshold_clock_valid_non_genesis-requires : goal.threshold_clock_valid_non_genesis-requires
unfolding of_includes
threshold_clock_valid_non_genesis-requires c =
    let i = c in
    let o = i in
    let k = o.args.stakes.now in
    let b = block_in o.args.rec.now in
    let s = c in (
      (
        o.requires.0.0,
        (
          o.requires.0.1,
          zero_passes _ (includes_numbered k b b.includes)
              (sym c.in_ok-includes_refusal.ensures),
        ),
      ),
      o.requires.1,
    )

pub returns-then-threshold_clock_valid_non_genesis : goal.returns-then-threshold_clock_valid_non_genesis
unfolding of_includes of_statements
returns-then-threshold_clock_valid_non_genesis c =
    let i = c in
    let o = i in
    let k = o.args.stakes.now in
    let b = block_in o.args.rec.now in
    let e = c in
    let r = e in
    let s = r in
    let n = as_round r.reference-reference.result b.reference r.reference-reference.ensures in
    let clock = body_clock k b (sym c.in_ok-includes_refusal.ensures)
    (sym c.in_ok-statements_refusal.ensures) in
    sym (clock ∙ rw (
      ne_eqb b.reference.round 0 (λ z. e.if-reference-eq0.false (n ∙ z)),
      sym c.threshold_clock_valid_non_genesis.ensures
          ∙ c.if-threshold_clock_valid_non_genesis.true,
    ))

pub returns : goal.returns
unfolding of_includes of_statements
returns c =
    let i = c in
    let o = i in
    let k = o.args.stakes.now in
    let b = block_in o.args.rec.now in
    let e = c in
    let r = e in
    let s = r in
    let n = as_round r.reference-reference.result b.reference r.reference-reference.ensures in
    let clock = body_clock k b (sym c.in_ok-includes_refusal.ensures)
    (sym c.in_ok-statements_refusal.ensures) in
    sym (clock ∙ rw (
      ne_eqb b.reference.round 0 (λ z. e.if-reference-eq0.false (n ∙ z)),
      sym c.threshold_clock_valid_non_genesis.ensures
          ∙ c.if-threshold_clock_valid_non_genesis.false,
    ))
