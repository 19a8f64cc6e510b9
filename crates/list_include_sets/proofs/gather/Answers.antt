use Prim.Native.Nat.{◌-◌, ◌*◌}
use mathlib.Core.Path.{◌≡◌, sym, ap, ◌∙◌}
use native.Mathlib.Omega.{arith}
use Rattle.list_include_sets.specs.Sets.{gathered_to}
use Rattle.list_include_sets.proofs.Gathering.{gathered_none}
use Rattle.list_include_sets.proofs.gather.Goals as goal

pub loop-i-init : goal.loop-i-init
loop-i-init c = let a = c.args in
    (omega arith, c.new-found.ensures ∙ sym (gathered_none a.sets.now a.memo.now a.k 0))

pub gather_word-found-requires : goal.gather_word-found-requires
gather_word-found-requires c = (
  (omega (arith, c.loop-i-test.true), c.requires.0),
  (c.requires.1, c.loop-i.invariant.1),
)

pub loop-i-preserved : goal.loop-i-preserved
loop-i-preserved c = let a = c.args in
    (omega (arith, c.loop-i-test.true), c.gather_word-found.ensures ∙ ap (gathered_to a.sets.now a.memo.now a.k) (omega arith))

pub returns : goal.returns
returns c = let a = c.args in
    let g = c.loop-i in
    let e : 64 * g.i ≡ 1024 = omega (arith, c.loop-i-test.false, g.invariant.0) in
    g.invariant.1 ∙ ap (gathered_to a.sets.now a.memo.now a.k) e
