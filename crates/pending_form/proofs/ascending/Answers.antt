use mathlib.Core.Path.{sym, ◌∙◌}
use Prim.Native.Nat.{◌<◌}
use native.Mathlib.Omega.{arith}
use borrow.Author.Count.{below_more}
use Rattle.pending_form.proofs.Forming.{stand_all, stands_not}
use Rattle.pending_form.proofs.ascending.Goals as goal

pub loop-k-init : goal.loop-k-init
loop-k-init c = (omega arith, λ j (h : j < 0). absurd (omega arith))

pub stands_at-requires : goal.stands_at-requires
stands_at-requires c = (c.requires, omega arith)

pub returns-then-not-stands_at : goal.returns-then-not-stands_at
returns-then-not-stands_at c = sym (stands_not _ _ (omega arith) (sym c.stands_at.ensures ∙ c.if-not-stands_at.true))

pub loop-k-preserved : goal.loop-k-preserved
loop-k-preserved c =
    (omega arith, below_more _ _ c.loop-k.invariant.1 (sym c.stands_at.ensures ∙ c.if-not-stands_at.false))

pub returns : goal.returns
returns c = sym (stand_all _ (λ j h. c.loop-k.invariant.1 j (omega (arith, h))))
