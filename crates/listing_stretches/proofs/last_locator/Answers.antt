use Prim.Native.Nat.{ℕ, ◌-◌}
use mathlib.Core.Path.{ap, ◌∙◌}
use Rattle.listing_stretches.specs.Stretches.{last_of}
use Rattle.listing_stretches.proofs.Stretches.{last_some}
use Rattle.listing_stretches.proofs.last_locator.Goals as goal

pub returns-then-n-eq0 : goal.returns-then-n-eq0
unfolding last_of
returns-then-n-eq0 c = rw c.if-n-eq0.true

pub returns : goal.returns
returns c = last_some _ _ _ _ c.if-n-eq0.false c.read_reference-block.ensures
    (c.before-offset.ensures ∙ ap (λ (k : ℕ). k - 1) c.read_u64.ensures)
