use mathlib.Core.Path.{◌≡◌, refl, sym, ap, ◌∙◌}
use mathlib.Core.List.{List}
use Prim.Native.Nat.{ℕ, ◌+◌}
use native.Mathlib.Omega.{arith}
use lib.ListN.{length, get_or, take, drop, set, length-drop}
use lib.Seq.{sets, length-sets, get_or-drop}
use Rattle.base.proofs.Le.{sets_next, get_d_sets_below}
use Rattle.index_strides.proofs.copy_on.Goals as goal

pub loop-i-init : goal.loop-i-init
loop-i-init c = (omega arith, refl)

pub bounds-index-from : goal.bounds-index-from
bounds-index-from c = let a = c.args in
    let l = c.loop-i in
    omega (
      arith,
      c.requires.0,
      c.requires.1,
      ap length l.invariant.1,
      length-sets a.index.now a.to (take l.i (drop a.from a.index.now)),
    )

pub bounds-index-to : goal.bounds-index-to
bounds-index-to c = let a = c.args in
    let l = c.loop-i in
    omega (
      arith,
      c.requires.0,
      c.requires.1,
      ap length l.invariant.1,
      length-sets a.index.now a.to (take l.i (drop a.from a.index.now)),
    )

pub loop-i-preserved : goal.loop-i-preserved
loop-i-preserved c = let a = c.args in
    let l = c.loop-i in
    let old : get_or l.index (a.from + l.i) 0 ≡ get_or (drop a.from a.index.now) l.i 0 =
    ap (λ (x : List ℕ). get_or x (a.from + l.i) 0) l.invariant.1
    ∙ get_d_sets_below (take l.i (drop a.from a.index.now)) a.index.now a.to (a.from + l.i) (omega (
      arith,
      c.requires.0,
      c.loop-i-test.true,
    ))
    ∙ sym (get_or-drop a.from a.index.now l.i 0) in (
      omega (arith, c.loop-i-test.true),
      ap (λ (w : ℕ). set l.index (a.to + l.i) w) old
          ∙ ap (λ (x : List ℕ). set x (a.to + l.i) (get_or (drop a.from a.index.now) l.i 0)) l.invariant.1
          ∙ sets_next a.index.now (drop a.from a.index.now) a.to l.i
          (omega (
            arith,
            c.requires.0,
            c.requires.1,
            c.loop-i-test.true,
            length-drop a.from a.index.now,
          )),
    )

pub shape_of-index : goal.shape_of-index
shape_of-index c = let a = c.args in
    let l = c.loop-i in
    ap length l.invariant.1 ∙ length-sets a.index.now a.to (take l.i (drop a.from a.index.now))

pub returns : goal.returns
returns c = let a = c.args in
    let l = c.loop-i in
    let e : l.i ≡ a.count = omega (arith, c.loop-i-test.false) in
    l.invariant.1 ∙ ap (λ (m : ℕ). sets a.index.now a.to (take m (drop a.from a.index.now))) e
