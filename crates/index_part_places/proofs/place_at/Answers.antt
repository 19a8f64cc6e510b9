use mathlib.Core.Path.{sym, ◌∙◌}
use native.Mathlib.Omega.{arith}
use lib.Dec.{eqb}
use borrow.Author.Tests.{ne_eqb}
use Rattle.base.proofs.Tests.{not_both}
use Rattle.base.proofs.Loops.{any_on, any_end}
use Rattle.store_spec.specs.Entry.{is_in}
use Rattle.index_part_places.proofs.place_at.Goals as goal

pub loop-k-init : goal.loop-k-init
unfolding is_in
loop-k-init c = (omega arith, c.requires)

pub returns-then-words-k : goal.returns-then-words-k
returns-then-words-k c = (omega (arith, c.loop-k-test.true), c.if-words-k.true)

pub loop-k-preserved : goal.loop-k-preserved
loop-k-preserved c =
    let a = c.args in
    let g = c.loop-k in (
      omega (arith, c.loop-k-test.true),
      sym (any_on (λ m. eqb m a.word) a.words.now g.k
          (omega (arith, c.loop-k-test.true)) (ne_eqb _ _ c.if-words-k.false)) ∙ g.invariant.1,
    )

pub returns : goal.returns
returns c =
    let a = c.args in
    let g = c.loop-k in
    absurd (not_both g.invariant.1 (any_end (λ m. eqb m a.word) a.words.now g.k (omega (arith, c.loop-k-test.false))))
