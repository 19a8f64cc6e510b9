use mathlib.Core.Path.{◌∙◌}
use native.Mathlib.Omega.{arith}
use borrow.Author.Tests.{eq-eqb, ne_eqb}
use Rattle.listing_input.specs.Input.{listed_stakes}
use Rattle.listing_input.proofs.committee_of.Goals as goal

pub returns-then-count-eq255 : goal.returns-then-count-eq255
unfolding listed_stakes
returns-then-count-eq255 c = let t = c.table_of.ensures in (
  t.0,
  t.1 ∙
      (rw (eq-eqb c.args.count 255 (omega arith))),
)

pub returns : goal.returns
unfolding listed_stakes
returns c = let t = c.members_of.ensures in (
  t.0,
  t.1 ∙ (rw (ne_eqb c.args.count 255
      c.if-count-eq255.false)),
)
