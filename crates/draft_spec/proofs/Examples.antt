-- The examples hold, evaluated. Assumes nothing.
use mathlib.Core.Path.{refl}
use Rattle.draft_spec.specs.Examples.{Examples}
use Rattle.draft_spec.proofs.Computing.{computing}

pub evaluated : Examples
unfolding computing
evaluated =
    record { lone = refl; two = refl; below = refl; past = refl; other = refl; gap = refl; falling = refl; between = refl; given = refl }
