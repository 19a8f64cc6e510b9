use mathlib.Core.Path.{refl, ◌∙◌}
use lib.Seq.{take_all}
use lib.ListN.{length-set}
use native.Mathlib.Omega.{arith}
use borrow.Author.Rules.{rules}
use Rattle.base.proofs.Le.{sets_next}
use Rattle.listing_text.proofs.put_text.Goals as goal

pub loop-i-init : goal.loop-i-init
loop-i-init c = (search rules, (refl, refl))

pub loop-i-preserved : goal.loop-i-preserved
loop-i-preserved c =
    let b = c.loop-i in
    let start = c.args in (
      search rules,
      (
        simp length-set (omega arith),
        rw b.invariant.1.1
            (sets_next start.out.now start.text.now start.at b.i c.loop-i-test.true),
      ),
    )

pub shape_of-out : goal.shape_of-out
shape_of-out c = c.loop-i.invariant.1.0

pub returns : goal.returns
returns c =
    let b = c.loop-i in
    let s = c.args.text.now in
    record { bytes = b.invariant.1.1 ∙ rw (take_all b.i s (omega arith)); end = refl; fits = omega arith }
