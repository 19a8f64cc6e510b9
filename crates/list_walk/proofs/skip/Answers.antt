use native.Mathlib.Omega.{arith}
use borrow.Author.Tests.{ne_eqb}
use Rattle.list_walk.proofs.Beginning.{skipped_start, skipped_more}
use Rattle.list_walk.proofs.skip.Goals as goal

pub loop-k-init : goal.loop-k-init
loop-k-init c = skipped_start c.args.own.now c.args.n c.args.certified.now

pub shape_of-certified-then-own-k-eq1 : goal.shape_of-certified-then-own-k-eq1
shape_of-certified-then-own-k-eq1 c = c.loop-k.invariant.long

pub returns-then-own-k-eq1 : goal.returns-then-own-k-eq1
returns-then-own-k-eq1 c = c.loop-k.invariant

pub bounds-certified-k : goal.bounds-certified-k
bounds-certified-k c = omega (
  arith,
  c.loop-k-test.true,
  c.requires.1,
  c.loop-k.invariant.long,
)

pub loop-k-preserved : goal.loop-k-preserved
loop-k-preserved c = let a = c.args in
    let g = c.loop-k in
    skipped_more a.own.now a.n a.certified.now g.certified g.k g.invariant c.loop-k-test.true
    c.requires.1 (ne_eqb _ 1 c.if-own-k-eq1.false)

pub shape_of-certified : goal.shape_of-certified
shape_of-certified c = c.loop-k.invariant.long

pub returns : goal.returns
returns c = c.loop-k.invariant
