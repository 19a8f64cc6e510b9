use mathlib.Core.Path.{sym, ◌∙◌}
use native.Mathlib.Omega.{arith}
use Rattle.std.proofs.lemmas.Result.{err_from_is_err_and}
use Rattle.base.proofs.Refusals.{number_not_zero}
use Rattle.feed_checks.proofs.Process.{statements_pass}
use Rattle.feed_checks.proofs.Feeds.{block_passes, record-malformed, record-block, record-events, record-full, record-none}
use Rattle.feed_checks.proofs.record_refusal.Goals as goal

pub returns-then-not-well_formed : goal.returns-then-not-well_formed
returns-then-not-well_formed c = sym (record-malformed _ _ _ _ (sym c.well_formed-2.ensures ∙ c.if-not-well_formed.true))

pub block_refusal-requires : goal.block_refusal-requires
block_refusal-requires c = let o = c in
    (o.requires.0, o.requires.1, (sym c.well_formed-2.ensures ∙ c.if-not-well_formed.false), o.requires.2)

pub returns-in_err-block_refusal : goal.returns-in_err-block_refusal
returns-in_err-block_refusal c =
    let told = c.in_err-block_refusal.ensures in
    let p = err_from_is_err_and c.from_residual.result c.from_residual.ensures.1 in
    rw (p.1, p.2) (told ∙ sym (record-block _ _ _ _ (sym c.well_formed-2.ensures ∙ c.if-not-well_formed.false)
    (λ z. number_not_zero c.in_err-block_refusal.field-0.0 (told ∙ z))))

pub event_words-requires : goal.event_words-requires
event_words-requires c = (
  (sym c.well_formed-2.ensures ∙ c.if-not-well_formed.false),
  statements_pass _ _ _
      (block_passes _ _ _ (sym c.in_ok-block_refusal.ensures)),
)

pub returns-then-words-event_words : goal.returns-then-words-event_words
returns-then-words-event_words c = sym (record-events _ _ _ _ (sym c.well_formed-2.ensures ∙ c.if-not-well_formed.false)
    (sym c.in_ok-block_refusal.ensures)
    (omega (arith, c.if-words-event_words.true, c.event_words.ensures)))

pub returns-then-is_full : goal.returns-then-is_full
returns-then-is_full c = sym (record-full _ _ _ _ (sym c.well_formed-2.ensures ∙ c.if-not-well_formed.false)
    (sym c.in_ok-block_refusal.ensures)
    (omega (arith, c.if-words-event_words.false, c.event_words.ensures)) (sym c.is_full.ensures ∙ c.if-is_full.true))

pub returns : goal.returns
returns c = sym (record-none _ _ _ _ (sym c.well_formed-2.ensures ∙ c.if-not-well_formed.false)
    (sym c.in_ok-block_refusal.ensures)
    (omega (arith, c.if-words-event_words.false, c.event_words.ensures)) (sym c.is_full.ensures ∙ c.if-is_full.false))
