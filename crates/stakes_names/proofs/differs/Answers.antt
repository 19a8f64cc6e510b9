use mathlib.Core.Path.{refl, sym, ◌∙◌}
use native.Mathlib.Omega.{arith}
use Rattle.stakes_names.proofs.Steps.{same_names, differs_end, differs_stop, differs_on}
use Rattle.stakes_names.proofs.differs.Goals as goal

pub loop-j-init : goal.loop-j-init
loop-j-init c = refl

pub name_at-requires : goal.name_at-requires
name_at-requires c =
    let start = c in
    let j = c.loop-j.j in
    (start.requires.above j (omega arith), start.requires.below j (omega arith))

pub returns-then-same : goal.returns-then-same
returns-then-same c =
    let b = c.loop-j in
    sym (b.invariant ∙ differs_stop _ _ _ b.j (omega arith) (rw c.name_at.ensures at
    (sym (same_names _ _ _ c.same.ensures.0 c.same.ensures.1) ∙ c.if-same.true)))

pub loop-j-preserved : goal.loop-j-preserved
loop-j-preserved c =
    let b = c.loop-j in
    b.invariant ∙ differs_on _ _ _ b.j (omega arith) (rw c.name_at.ensures at
    (sym (same_names _ _ _ c.same.ensures.0 c.same.ensures.1) ∙ c.if-same.false))

pub returns : goal.returns
returns c = sym (c.loop-j.invariant ∙ differs_end _ _ _ c.loop-j.j (omega arith))
