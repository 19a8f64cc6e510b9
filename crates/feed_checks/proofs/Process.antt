-- A block's shares and votes, as the code counts them. Assumes nothing.
use mathlib.Core.Path.{◌≡◌}
use mathlib.Core.Bool.{true}
use mathlib.Core.List.{List, map, flatten}
use Rattle.base.specs.Checks.{passes}
use Rattle.base.proofs.Checks.{passes_others, passes_left, passes_right}
use Rattle.committee.specs.Committee.{Committee}
use Rattle.record_spec.specs.Verify.{head_checks, include_checks, statement_checks, body_checks}
use Rattle.record_spec.specs.Block.{Block}
use Rattle.store_spec.specs.Layout.{Record}
use Rattle.store_spec.specs.Accept.{block_checks}

-- the statements of an accepted block pass their checks
pub statements_pass : (c : Committee) (rs : List Record) (b : Block) → passes (block_checks c rs b) ≡ true → passes
    (flatten (map statement_checks b.statements)) ≡ true
unfolding block_checks body_checks
statements_pass c rs b h =
    let body = passes_left (body_checks c b) _ (passes_others _ _ (passes_right (head_checks c b) _ h)) in
    passes_left (flatten (map statement_checks b.statements)) _ (passes_right (flatten (map (include_checks c b) b.includes)) _ body)
