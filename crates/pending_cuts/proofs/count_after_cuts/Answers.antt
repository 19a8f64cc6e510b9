use mathlib.Core.Path.{sym, ap, ◌∙◌}
use native.Mathlib.Omega.{arith}
use lib.ListN.{length}
use Rattle.pending_words.proofs.Slots.{holds_holding}
use Rattle.pending_cuts.proofs.Cuts.{uncut, length_both_cuts}
use Rattle.pending_cuts.proofs.count_after_cuts.Goals as goal

pub overflow_add-result : goal.overflow_add-result
overflow_add-result c = omega (arith, (holds_holding _ c.requires).fits)

pub overflow_add-result-then-start-end : goal.overflow_add-result-then-start-end
overflow_add-result-then-start-end c = omega (arith, (holds_holding _ c.requires).fits)

pub returns-then-start-end : goal.returns-then-start-end
returns-then-start-end c =
    rw c.item_count-n.ensures
    (length_both_cuts _ _ _ _ _ _ c.if-start-end.true c.cuts_at-first.ensures.0 c.cuts_at-second.ensures.0)

pub returns : goal.returns
returns c = c.item_count-n.ensures ∙ ap (λ l. length l) (sym (uncut _ _ _ _ c.if-start-end.false))
