use native.Mathlib.Omega.{arith}
use lib.ListN.{length}
use borrow.Author.Tests.{lt-ltb, le-ltb}
use Rattle.list_includes_spec.specs.Places.{set_at}
use Rattle.list_walk.specs.Walk.{any_noted, counted}
use Rattle.list_walk.proofs.counted_at.Goals as goal

pub returns-then-rejecters-eq0 : goal.returns-then-rejecters-eq0
unfolding counted any_noted
returns-then-rejecters-eq0 c = rw (le-ltb 0 (length c.args.rejecters.now) (omega (arith, c.if-rejecters-eq0.true)))

pub bounds-rejecters-k : goal.bounds-rejecters-k
unfolding any_noted
bounds-rejecters-k c = let h = c.requires.1
    (lt-ltb 0 (length c.args.rejecters.now) (omega (arith, c.if-rejecters-eq0.false))) in omega arith

pub bounds-rejecters-k-2 : goal.bounds-rejecters-k-2
unfolding any_noted
bounds-rejecters-k-2 c = let h = c.requires.1
    (lt-ltb 0 (length c.args.rejecters.now) (omega (arith, c.if-rejecters-eq0.false))) in omega arith

pub returns : goal.returns
unfolding counted any_noted set_at
returns c = rw (lt-ltb 0 (length c.args.rejecters.now) (omega (arith, c.if-rejecters-eq0.false)))
    c.less.ensures
