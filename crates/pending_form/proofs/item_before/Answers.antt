use mathlib.Core.Path.{◌≡◌}
use native.Mathlib.Omega.{arith}
use borrow.Author.Tests.{lt-ltb, le-ltb, eq-eqb, ne_eqb}
use Rattle.pending_spec.specs.Items.{item_before}
use Rattle.pending_words.specs.Answers.{as_item}
use Rattle.pending_form.proofs.item_before.Goals as goal

pub returns-then-x-y : goal.returns-then-x-y
unfolding item_before as_item
returns-then-x-y c = rw (lt-ltb _ _ c.if-x-y.true)

pub returns-then-y-x : goal.returns-then-y-x
unfolding item_before as_item
returns-then-y-x c =
    let start = c in
    rw (
      le-ltb _ _ c.if-x-y.false,
      ne_eqb start.args.x.position start.args.y.position
          (λ (e : start.args.x.position ≡ start.args.y.position). omega arith),
    )

pub returns : goal.returns
unfolding item_before as_item
returns c =
    let start = c in
    rw (le-ltb _ _ c.if-x-y.false, eq-eqb start.args.x.position start.args.y.position (omega arith))
