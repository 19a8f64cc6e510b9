use mathlib.Core.Path.{◌≡◌, sym, ◌∙◌}
use Prim.Native.Nat.{◌+◌}
use native.Mathlib.Omega.{arith}
use Rattle.record_spec.specs.Reference.{locator}
use Rattle.types.specs.Values.{as_reference, as_locator}
use Rattle.types.proofs.Words.{compared_equal, compared_less, compared_greater}
use Rattle.draft_accept_runs.proofs.Accepts.{far_high, far_gap, far_block, near}
use borrow.Author.Rules.{rules}
use Rattle.draft_accept_runs.proofs.goes_on.Goals as goal

pub returns-then-other : goal.returns-then-other
unfolding as_locator locator
returns-then-other c = sym (far_high (locator (as_reference c.args.block) c.args.last)
    (as_locator c.args.other) (omega arith))

pub returns-then-other-last : goal.returns-then-other-last
unfolding as_locator locator
returns-then-other-last c = sym (far_gap (locator (as_reference c.args.block) c.args.last)
    (as_locator c.args.other)
    (λ (e : c.args.other.offset ≡ c.args.last + 1). omega arith))

pub returns-then-other-last-2 : goal.returns-then-other-last-2
unfolding as_locator locator
returns-then-other-last-2 c = sym (far_gap (locator (as_reference c.args.block)
    c.args.last) (as_locator c.args.other)
    c.if-other-last-2.true)

pub returns-in-Equal : goal.returns-in-Equal
unfolding as_locator locator
returns-in-Equal c =
    let same = compared_equal (as_reference c.args.block)
    (as_reference c.args.other.block)
    (sym c.compare.ensures ∙ c.in-Equal.is) in
    sym (near (locator (as_reference c.args.block)
    c.args.last)
    (as_locator c.args.other) (omega arith)
    c.if-other-last-2.false same)

pub returns-in-Less : goal.returns-in-Less
unfolding as_locator locator
returns-in-Less c =
    let other = compared_less (as_reference c.args.block)
    (as_reference c.args.other.block)
    (sym c.compare.ensures ∙ c.in-Less.is) in
    sym (far_block (locator (as_reference c.args.block)
    c.args.last)
    (as_locator c.args.other) other.0)

pub returns-in-Greater : goal.returns-in-Greater
unfolding as_locator locator
returns-in-Greater c =
    let other = compared_greater (as_reference c.args.block)
    (as_reference c.args.other.block)
    (sym c.compare.ensures ∙ c.in-Greater.is) in
    sym (far_block (locator (as_reference c.args.block)
    c.args.last)
    (as_locator c.args.other) other.0)
