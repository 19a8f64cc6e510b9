use mathlib.Core.Path.{◌∙◌}
use native.Mathlib.Omega.{arith}
use Rattle.store_entries.proofs.Placed.{entry_reference}
use Rattle.store_entries.proofs.reference_at.Goals as goal

pub overflow_add-at : goal.overflow_add-at
overflow_add-at c = omega (arith, (entry_reference c.args.store.now c.args.at c.requires).0)

pub read_reference-requires : goal.read_reference-requires
read_reference-requires c = (entry_reference c.args.store.now c.args.at c.requires).0

pub returns : goal.returns
returns c =
    let start = c in
    c.read_reference.ensures ∙ (entry_reference start.args.store.now start.args.at start.requires).1
