-- Runs as the code reads them. Assumes nothing.
use mathlib.Core.Path.{◌≡◌, subst}
use Rattle.index_spec.specs.Runs.{Run}
use Rattle.index_spec.specs.Walk.{Past}

-- two runs that were read, one past the other
pub past_read : (x x' y y' : Run) → x ≡ x' → y ≡ y' → Past x.reference x.end y.reference y.start → Past x'.reference x'.end
    y'.reference y'.start
past_read x x' y y' e f h =
    subst (λ (z : Run). Past z.reference z.end y'.reference y'.start) e
    (subst (λ (z : Run). Past x.reference x.end z.reference z.start) f h)
