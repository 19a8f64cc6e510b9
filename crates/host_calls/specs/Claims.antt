-- What the word of an answer tells. Assumes nothing: these are definitions.
use Rattle.std.specs.Prelude.{ℕ, ◌<◌, ◌≡◌}
use Rattle.base.specs.Checks.{refused, answered}
use Rattle.host_calls.specs.Calls.{encoded}

pub record Claims : Type 0 where
  -- an answer below 2^63 is taken for no refusal
  pub told_apart : (n m : ℕ) → n < 9223372036854775808 → encoded (answered n) ≡ encoded (refused m) → ⊥
