use Prim.Native.Nat.{ℕ, ◌-◌, ◌+◌}
use mathlib.Core.Path.{refl, ap, ◌∙◌}
use mathlib.Core.List.{List}
use native.Mathlib.Omega.{arith}
use lib.ListN.{length, take, get_or, set}
use lib.Seq.{sets, length-sets, take_all}
use Rattle.base.proofs.Le.{sets_next}
use Rattle.base.proofs.copy_to.Goals as goal

pub loop-i-init : goal.loop-i-init
loop-i-init c = (omega arith, refl)

pub bounds-s-at : goal.bounds-s-at
bounds-s-at c = omega (
  arith,
  ap length c.loop-i.invariant.1,
  length-sets c.args.s.now
      c.args.at (take c.loop-i.i c.args.from.now),
  c.requires,
)

pub loop-i-preserved : goal.loop-i-preserved
loop-i-preserved c =
    let a = c.args in
    let l = c.loop-i in (
      omega arith,
      ap (λ (x : List ℕ). set x (a.at + l.i) (get_or a.from.now l.i 0)) l.invariant.1 ∙ sets_next a.s.now a.from.now a.at l.i
          c.loop-i-test.true,
    )

pub shape_of-s : goal.shape_of-s
shape_of-s c = ap length c.loop-i.invariant.1 ∙ length-sets c.args.s.now c.args.at
    (take c.loop-i.i c.args.from.now)

pub returns : goal.returns
returns c =
    let a = c.args in
    let l = c.loop-i in
    l.invariant.1 ∙ ap (λ (x : List ℕ). sets a.s.now a.at x) (take_all l.i a.from.now (omega arith))
