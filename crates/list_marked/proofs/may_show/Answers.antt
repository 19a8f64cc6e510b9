use mathlib.Core.Path.{refl, sym, ◌∙◌}
use Rattle.base.proofs.Tests.{not_both}
use Rattle.list_marked.proofs.may_show.Goals as goal

pub returns-then-not-wants_shares : goal.returns-then-not-wants_shares
returns-then-not-wants_shares c = record { wide = λ e. refl; ordinary = λ t. absurd (not_both t (sym c.wants_shares.ensures ∙ c.if-not-wants_shares.true)) }

pub returns : goal.returns
returns c = record {
  wide = λ e. absurd (not_both (sym c.wants_shares.ensures ∙ c.if-not-wants_shares.false) e);
  ordinary = λ t. c.any_marked.ensures;
}
