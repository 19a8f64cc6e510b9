use mathlib.Core.Path.{◌≡◌, refl, subst}
use Prim.Native.Nat.{ℕ, ◌*◌, ◌-◌}
use native.Mathlib.Omega.{arith}
use lib.ListN.{length, length-set}
use Rattle.final_readings_spec.specs.Answers.{as_reading}
use Rattle.types.specs.Values.{as_locator}
use Rattle.slip_read_ancestry.proofs.Places.{right_falls}
use Rattle.slip_read_rejecters.specs.Rejecting.{Rejecting}
use Rattle.slip_read_rejecters.proofs.Rejecters.{rejecting_none, rejecting_more, rejecting_all, rejecting_old}
use borrow.Author.Rules.{rules}
use Rattle.slip_read_rejecters.proofs.note_rejecters.Goals as goal

pub returns-in-Old : goal.returns-in-Old
unfolding as_reading
returns-in-Old c = rw c.in-Old.is (rejecting_old _ _ _ _ c.requires.1.1)

pub loop-j-init : goal.loop-j-init
loop-j-init c = (
  rejecting_none _ _ c.requires.0.0
      (right_falls _ c.requires.0.1) _ _,
  (refl, omega arith),
)

pub rejecters_of-found-requires : goal.rejecters_of-found-requires
rejecters_of-found-requires c = (
  c.requires.0,
  (
    (
      c.loop-j-test.true,
      omega (
        arith,
        c.requires.1.0,
        c.loop-j.invariant.1.0,
      ),
    ),
    c.loop-j.invariant.0,
  ),
)

pub bounds-rejecting-j : goal.bounds-rejecting-j
bounds-rejecting-j c = omega (
  arith,
  c.requires.1.0,
  c.loop-j.invariant.1.0,
  c.loop-j-test.true,
)

pub bounds-rejecting-j-in-loop-j : goal.bounds-rejecting-j-in-loop-j
bounds-rejecting-j-in-loop-j c = omega (
  arith,
  c.requires.1.0,
  c.loop-j.invariant.1.0,
  c.loop-j-test.true,
  length-set c.loop-j.rejecting (2 * c.loop-j.j)
      c.rejecters_of-found.result.low,
)

pub loop-j-preserved : goal.loop-j-preserved
loop-j-preserved c = (
  rejecting_more _ _ c.requires.0.0
      (right_falls _ c.requires.0.1) _ _ _ c.rejecters_of-found.result
      c.loop-j.invariant.0 (omega (
        arith,
        c.requires.1.0,
        c.loop-j.invariant.1.0,
        c.loop-j-test.true,
      )) c.rejecters_of-found.ensures,
  (simp length-set c.loop-j.invariant.1.0, omega (arith, c.loop-j-test.true)),
)

pub shape_of-rejecting : goal.shape_of-rejecting
shape_of-rejecting c = c.loop-j.invariant.1.0

pub returns : goal.returns
unfolding as_reading
returns c = let e : c.loop-j.j ≡ length c.args.order.now = omega
    (arith, c.loop-j.invariant.1.1, c.loop-j-test.false) in
    rw c.in_default.is
    (rejecting_all _ _ c.requires.0.0
    (right_falls _ c.requires.0.1) _ _
    (subst (λ (n : ℕ). Rejecting c.args.records.now
    c.args.order.now
    (as_locator c.args.locator) n c.loop-j.rejecting) e c.loop-j.invariant.0))
