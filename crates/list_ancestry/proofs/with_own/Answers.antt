use mathlib.Core.Path.{ap, ◌∙◌}
use borrow.Author.Tests.{eq-eqb, ne_eqb}
use Rattle.committee_set.specs.AuthoritySet.{AuthoritySet, united}
use Rattle.list_ancestry.proofs.with_own.Goals as goal

pub returns-then-mark-ne1 : goal.returns-then-mark-ne1
returns-then-mark-ne1 c = rw (ne_eqb c.args.mark 1 c.if-mark-ne1.true)
    (c.union.ensures ∙ ap (λ (v : AuthoritySet). united v c.args.below) c.new.ensures)

pub insert-own-requires : goal.insert-own-requires
insert-own-requires c = rw c.author_at-author.ensures c.requires.1

pub returns : goal.returns
returns c = rw (eq-eqb c.args.mark 1 c.if-mark-ne1.false)
    (c.union-2.ensures ∙ ap (λ (v : AuthoritySet). united v c.args.below)
    (c.insert-own.ensures ∙ rw (c.new-2.ensures, c.author_at-author.ensures)))
