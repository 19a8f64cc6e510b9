use native.Mathlib.Omega.{arith}
use borrow.Author.Tests.{lt-ltb, le-ltb}
use Rattle.record_spec.specs.Reference.{locator}
use Rattle.types.specs.Values.{as_reference, as_locator}
use Rattle.load_spec.specs.Loadable.{met}
use Rattle.load_needed.specs.Answers.{as_needed}
use Rattle.load_places.proofs.is_met.Goals as goal

pub returns-in_default : goal.returns-in_default
unfolding met as_needed
returns-in_default c = rw c.in_default.is

pub returns-then-share-change : goal.returns-then-share-change
unfolding met as_needed as_locator locator as_reference
returns-then-share-change c =
    let m = c.in-Some.change in
    let a = c.args in
    rw (c.in-Some.is, le-ltb m.block.round.0 a.share.block.round.0 c.if-share-change.true)

pub returns : goal.returns
unfolding met as_needed as_locator locator as_reference
returns c =
    let m = c.in-Some.change in
    let a = c.args in
    rw (c.in-Some.is, lt-ltb m.block.round.0 a.share.block.round.0 (omega arith))
    c.is_listed.ensures
