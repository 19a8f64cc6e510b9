use native.Mathlib.Omega.{arith}
use borrow.Author.Tests.{lt-ltb, le-ltb, eq-eqb, ne_eqb}
use Rattle.pending_spec.specs.Items.{item_full}
use Rattle.pending_words.specs.Answers.{as_item}
use Rattle.pending_words.specs.Step.{stands_at}
use Rattle.pending_form.proofs.stands_at.Goals as goal

pub returns-then-x : goal.returns-then-x
unfolding stands_at item_full as_item
returns-then-x c =
    let x = c.item_at-x in
    rw (← x.ensures, le-ltb x.result.start x.result.end (omega arith))

pub returns-then-k-eq0 : goal.returns-then-k-eq0
unfolding stands_at item_full as_item
returns-then-k-eq0 c = rw (← c.item_at-x.ensures, lt-ltb _ _ c.if-x.false, eq-eqb _ _ c.if-k-eq0.true)

pub item_at-requires : goal.item_at-requires
item_at-requires c = (c.requires.0, omega arith)

pub returns : goal.returns
unfolding stands_at item_full as_item
returns c =
    rw (
      ← c.item_at-x.ensures,
      lt-ltb _ _ c.if-x.false,
      ne_eqb _ _
          c.if-k-eq0.false,
      ← c.item_at.ensures,
    ) c.item_before.ensures
