use mathlib.Core.Path.{◌∙◌}
use Rattle.types.specs.Values.{as_maybe}
use Rattle.list_next.proofs.Asking.{old_next}
use Rattle.final_readings_spec.specs.Answers.{as_reading}
use Rattle.list_readings_spec.specs.Answers.{is_ordinary}
use Rattle.list_next.proofs.next_final.Goals as goal

pub returns : goal.returns
unfolding is_ordinary as_reading
returns c = let a = c.args in c.next_listed.ensures ∙ old_next a.stakes.now a.store.now (as_maybe a.after)
