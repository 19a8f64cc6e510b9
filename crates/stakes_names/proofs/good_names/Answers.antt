use Prim.Native.Nat.{◌+◌}
use mathlib.Core.Path.{refl, sym, ◌∙◌}
use native.Mathlib.Omega.{arith}
use Rattle.stakes_names.proofs.Steps.{later, inside_later, names_end, names_bad, names_again, names_on}
use Rattle.stakes_names.proofs.good_names.Goals as goal

pub loop-k-init : goal.loop-k-init
loop-k-init c = refl

pub name_at-name-requires : goal.name_at-name-requires
name_at-name-requires c =
    let start = c in
    let k = c.loop-k.k in
    (start.requires.above k (omega arith), start.requires.below k (omega arith))

pub returns-then-not-good_name : goal.returns-then-not-good_name
returns-then-not-good_name c =
    let b = c.loop-k in
    sym (b.invariant ∙ names_bad _ _ b.k (omega arith) (rw c.name_at-name.ensures at
    (sym c.good_name.ensures ∙ c.if-not-good_name.true)))

pub differs-requires : goal.differs-requires
differs-requires c =
    let start = c in
    let k = c.loop-k.k in
    rw (later start.args.indexes.now (k + 1)) (inside_later _ _ (k + 1) (omega arith) start.requires)

pub returns-then-not-differs : goal.returns-then-not-differs
returns-then-not-differs c =
    let b = c.loop-k in
    let n = c.name_at-name.ensures in
    let g = sym c.good_name.ensures ∙ c.if-not-good_name.false in
    sym (b.invariant ∙ names_again _ _ b.k (omega arith) (rw n at g) (rw (n, later) at (sym c.differs.ensures ∙ c.if-not-differs.true)))

pub loop-k-preserved : goal.loop-k-preserved
loop-k-preserved c =
    let b = c.loop-k in
    let n = c.name_at-name.ensures in
    let g = sym c.good_name.ensures ∙ c.if-not-good_name.false in
    b.invariant ∙ names_on _ _ b.k (omega arith) (rw n at g) (rw (n, later) at (sym c.differs.ensures ∙ c.if-not-differs.false))

pub returns : goal.returns
returns c = sym (c.loop-k.invariant ∙ names_end _ _ c.loop-k.k (omega arith))
