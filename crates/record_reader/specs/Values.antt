-- What the code's values mean: for each declared type its one conversion. Assumes nothing: these are definitions.
use Rattle.std.specs.Prelude.{ℕ}
use Rattle.std.proofs.Math.Option.{Option, none, some}
use Rattle.std.specs.Prelude.{None, Some}
use Rattle.std.specs.declared.option.Option as code

unfoldable pub as_time : code.Option ℕ → Option ℕ
as_time (Some x) = some x
as_time None = none
