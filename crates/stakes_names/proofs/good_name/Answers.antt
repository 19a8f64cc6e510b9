use Prim.Native.Nat.{◌+◌, ◌-◌}
use mathlib.Core.Path.{◌≡◌, sym, ◌∙◌}
use native.Mathlib.Omega.{arith}
use Rattle.stakes_names.proofs.Steps.{name_zero, name_empty, name_first, name_stop, name_on, name_last}
use Rattle.stakes_names.proofs.good_name.Goals.{else-name-i-eq0-via-then-name-i-eq0+else-name-i-ne0, else-name-i-eq0-via-else-name-i-eq0}
use lib.ListN.{get_or}
use Rattle.stakes_names.proofs.good_name.Goals as goal

pub returns-then-name-eq0 : goal.returns-then-name-eq0
returns-then-name-eq0 c = sym (name_empty _ (omega arith))

pub returns-then-name-eq0-2 : goal.returns-then-name-eq0-2
returns-then-name-eq0-2 c = sym (name_zero _ (omega arith))

pub loop-i-init : goal.loop-i-init
loop-i-init c = (omega arith, (omega arith, name_first _ (λ z. omega arith)))

pub returns-then-name-i-ne0 : goal.returns-then-name-i-ne0
returns-then-name-i-ne0 c = sym (c.loop-i.invariant.1.1 ∙ name_stop _ c.loop-i.i (omega arith)
    (omega arith) (omega arith) c.if-name-i-ne0.true)

pub loop-i-preserved : goal.loop-i-preserved
loop-i-preserved c =
    let b = c.loop-i in
    let other : (k : get_or c.args.name.now (b.i - 1) 0 ≡ 0) → get_or c.args.name.now b.i 0 ≡ 0 = λ z. elim c.else-name-i-eq0.branch [
      | else-name-i-eq0-via-then-name-i-eq0+else-name-i-ne0 w ↦ w.if-name-i-ne0.false
      | else-name-i-eq0-via-else-name-i-eq0 w ↦ absurd (w.if-name-i-eq0.false z)
    ] in
    let e : (b.i + 1) - 1 ≡ b.i = omega arith in (
      omega arith,
      (
        omega arith,
        b.invariant.1.1 ∙ name_on _ b.i (omega arith) (omega arith)
            other ∙ rw e,
      ),
    )

pub returns : goal.returns
returns c = sym (c.loop-i.invariant.1.1 ∙ name_last _ c.loop-i.i (omega arith) (omega arith))
