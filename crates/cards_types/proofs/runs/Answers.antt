use mathlib.Core.Path.{sym, ◌∙◌}
use Rattle.cards_types.proofs.runs.Goals as goal

pub print_runs-requires : goal.print_runs-requires
print_runs-requires g c = sym c.well_formed-2.ensures ∙ c.if-well_formed.true
