use mathlib.Core.Path.{◌≡◌, refl, subst}
use Prim.Native.Nat.{ℕ}
use native.Mathlib.Omega.{arith}
use lib.ListN.{length, length-set}
use Rattle.final_readings_spec.specs.Answers.{as_reading}
use Rattle.slip_read_paths.proofs.Noting.{byte_of}
use Rattle.slip_read_ancestry.specs.Lacking.{Lacking}
use Rattle.slip_read_ancestry.proofs.Places.{right_falls}
use Rattle.slip_read_ancestry.proofs.Lost.{lacking_none, lacking_more, lacking_all, lacking_old}
use Rattle.slip_read_ancestry.proofs.note_lacking.Goals as goal

pub returns-in-Old : goal.returns-in-Old
unfolding as_reading
returns-in-Old c = rw c.in-Old.is (lacking_old _ _ _ c.requires.1.1)

pub loop-j-init : goal.loop-j-init
loop-j-init c = (
  lacking_none _ _ c.requires.0.0 (right_falls _ c.requires.0.1)
      _,
  (refl, omega arith),
)

pub lacks_ancestor-found-requires : goal.lacks_ancestor-found-requires
lacks_ancestor-found-requires c = (
  c.requires.0,
  (
    (
      c.loop-j-test.true,
      omega (
        arith,
        c.requires.1.0,
        c.loop-j.invariant.1.0,
      ),
    ),
    c.loop-j.invariant.0,
  ),
)

pub bounds-lacking-j : goal.bounds-lacking-j
bounds-lacking-j c = omega (
  arith,
  c.requires.1.0,
  c.loop-j.invariant.1.0,
  c.loop-j-test.true,
)

pub loop-j-preserved : goal.loop-j-preserved
loop-j-preserved c = (
  lacking_more _ _ c.requires.0.0
      (right_falls _ c.requires.0.1) _ _ _ c.loop-j.invariant.0
      (omega (
        arith,
        c.requires.1.0,
        c.loop-j.invariant.1.0,
        c.loop-j-test.true,
      )) (byte_of _ _ c.lacks_ancestor-found.ensures),
  (simp length-set c.loop-j.invariant.1.0, omega (arith, c.loop-j-test.true)),
)

pub shape_of-lacking : goal.shape_of-lacking
shape_of-lacking c = c.loop-j.invariant.1.0

pub returns : goal.returns
unfolding as_reading
returns c = let e : c.loop-j.j ≡ length c.args.order.now = omega
    (arith, c.loop-j.invariant.1.1, c.loop-j-test.false) in
    rw c.in_default.is
    (lacking_all _ _ c.requires.0.0
    (right_falls _ c.requires.0.1) _
    (subst (λ (n : ℕ). Lacking c.args.records.now
    c.args.order.now n c.loop-j.lacking) e c.loop-j.invariant.0))
