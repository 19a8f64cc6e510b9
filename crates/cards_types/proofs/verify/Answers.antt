use mathlib.Core.Path.{sym, ◌∙◌}
use Rattle.committee.proofs.Answers.{taken_sound}
use Rattle.cards_types.proofs.verify.Goals as goal

pub head_refusal-requires : goal.head_refusal-requires
head_refusal-requires c = sym c.well_formed-2.ensures ∙ c.if-not-well_formed.false

pub body_refusal-requires : goal.body_refusal-requires
body_refusal-requires c =
    let taken = taken_sound c.args.stakes.now c.in-Ok.total c.in-Ok.ensures in
    ((sym c.well_formed-2.ensures ∙ c.if-not-well_formed.false, taken.0), taken.1)
