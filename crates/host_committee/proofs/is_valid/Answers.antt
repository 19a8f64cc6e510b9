use mathlib.Core.Path.{ap, ◌∙◌}
use Rattle.host_calls.specs.Calls.{flag}
use Rattle.host_committee.proofs.is_valid.Goals as goal

pub returns : goal.returns
returns c = c.flag.ensures ∙ ap flag c.is_valid.ensures
