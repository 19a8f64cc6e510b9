use Rattle.committee.specs.Answers.{as_new_committee}
use Rattle.committee.proofs.Answers.{taken_sound, broken_sound}
use Rattle.base.specs.Checks.{refusal}
use mathlib.Core.Path.{sym, ap, ◌∙◌}
use Rattle.host_add.proofs.no_aggregator.Goals as goal

pub returns-in_default : goal.returns-in_default
unfolding refusal
returns-in_default c = rw (broken_sound c.args.stakes.now c.in_default.field-0
    (ap as_new_committee (sym c.in_default.is) ∙ c.new_committee.ensures))

pub returns : goal.returns
unfolding refusal
returns c = rw (taken_sound c.args.stakes.now c.in-Ok.field-0
    (ap as_new_committee (sym c.in-Ok.is) ∙ c.new_committee.ensures)).0
