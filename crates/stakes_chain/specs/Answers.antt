-- What the walk along the chain answers, as a chain. Assumes nothing: these are definitions.
use Rattle.std.specs.Prelude.{ℕ, ◌≤◌, List, take}
use Rattle.std.proofs.Math.Option.{Option, none, some}
use Rattle.std.specs.Prelude.{None, Some}
use Rattle.std.specs.declared.option.Option as code

-- the indexes that stand in front of what was lent for them
unfoldable pub as_chain : code.Option ℕ → List ℕ → Option (List ℕ)
as_chain (Some n) indexes = some (take n indexes)
as_chain None indexes = none

-- so many were lent
abbrev pub count_fits : code.Option ℕ → Type 0
count_fits (Some n) = n ≤ 2520
count_fits None = 0 ≤ 2520
