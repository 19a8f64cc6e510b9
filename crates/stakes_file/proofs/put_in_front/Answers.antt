use mathlib.Core.Path.{refl, ◌∙◌}
use native.Mathlib.Omega.{arith}
use lib.ListN.{length, length-set}
use borrow.Author.Tests.{le-leb, lt-leb}
use Rattle.stakes_file.specs.Load.{loaded_into}
use Rattle.stakes_file.specs.Answers.{as_load}
use Rattle.stakes_file.proofs.Fills.{fill_next, fill_end}
use Rattle.stakes_file.proofs.put_in_front.Goals as goal

pub returns-then-stakes-members : goal.returns-then-stakes-members
unfolding as_load loaded_into
returns-then-stakes-members c =
    let e = lt-leb (length c.args.members.now) (length c.args.stakes.now) (omega arith) in
    record { result_value = rw e; stakes_after = rw e }

pub loop-i-init : goal.loop-i-init
loop-i-init c = (omega arith, (refl, refl))

pub loop-i-preserved : goal.loop-i-preserved
loop-i-preserved c =
    let start = c.args in
    let b = c.loop-i in
    (omega arith, (simp length-set b.invariant.1.0, rw b.invariant.1.1 (fill_next start.stakes.now start.members.now b.i (omega arith))))

pub shape_of-stakes : goal.shape_of-stakes
shape_of-stakes c = c.loop-i.invariant.1.0

pub returns : goal.returns
unfolding as_load loaded_into
returns c =
    let start = c.args in
    let e = le-leb (length start.members.now) (length start.stakes.now) (omega arith) in
    record { result_value = rw e; stakes_after = c.loop-i.invariant.1.1 ∙ fill_end start.stakes.now start.members.now c.loop-i.i (omega arith) ∙ (rw e) }
