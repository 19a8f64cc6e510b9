use mathlib.Core.Path.{◌≡◌}
use native.Mathlib.Omega.{arith}
use borrow.Author.Tests.{lt-ltb, le-ltb, eq-eqb, ne_eqb}
use Rattle.pending_words.specs.Answers.{as_item}
use Rattle.pending_search.specs.Step.{ends_before}
use Rattle.pending_search.proofs.ends_before.Goals as goal

pub returns-then-x-p : goal.returns-then-x-p
unfolding ends_before as_item
returns-then-x-p c = rw (lt-ltb _ _ c.if-x-p.true)

pub returns-then-p-x : goal.returns-then-p-x
unfolding ends_before as_item
returns-then-p-x c =
    let start = c in
    rw (
      le-ltb _ _ c.if-x-p.false,
      ne_eqb start.args.x.position start.args.p
          (λ (e : start.args.x.position ≡ start.args.p). omega arith),
    )

pub returns : goal.returns
unfolding ends_before as_item
returns c =
    let start = c in
    rw (le-ltb _ _ c.if-x-p.false, eq-eqb start.args.x.position start.args.p (omega arith))
