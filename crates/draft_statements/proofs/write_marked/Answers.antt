use mathlib.Core.Path.{◌∙◌}
use native.Mathlib.Omega.{arith}
use lib.ListN.{length-set}
use Rattle.record_spec.specs.Record.{locator_bytes}
use Rattle.types.specs.Values.{as_locator}
use Rattle.draft_statements.proofs.Written.{byte_first}
use Rattle.draft_statements.proofs.write_marked.Goals as goal

pub write_locator-requires : goal.write_locator-requires
write_locator-requires c = simp length-set (omega arith)

pub shape_of-out : goal.shape_of-out
shape_of-out c = c.write_locator.auto.s ∙ simp length-set

pub returns : goal.returns
returns c =
    let a = c.args in
    c.write_locator.ensures ∙ byte_first a.out.now a.at a.mark (locator_bytes (as_locator a.locator))
