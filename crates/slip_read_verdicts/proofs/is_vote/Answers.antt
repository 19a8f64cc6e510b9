use Rattle.slip_read_verdicts.proofs.Votes.{vote_noted, other_author}
use mathlib.Core.Path.{sym, ◌∙◌}
use Rattle.slip_read_records.specs.Places.{block_at_place}
use Rattle.types.proofs.References.{as_author}
use Rattle.slip_read_verdicts.proofs.is_vote.Goals as goal

pub reference_at-reference-requires : goal.reference_at-reference-requires
reference_at-reference-requires c = c.requires.0.framed c.args.place
    c.requires.1.0

pub returns-then-reference-author : goal.returns-then-reference-author
unfolding block_at_place
returns-then-reference-author c = λ l n. other_author l _ _ (λ e. c.if-reference-author.true (as_author _ _ c.reference_at-reference.ensures ∙ e))

pub returns : goal.returns
unfolding block_at_place
returns c = λ l n. vote_noted _ _ _ l _ _ _ n c.requires.1.0
    (sym (as_author _ _ c.reference_at-reference.ensures) ∙ c.if-reference-author.false)
