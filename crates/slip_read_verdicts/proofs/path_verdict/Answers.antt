use mathlib.Core.Bool.{true, false}
use mathlib.Core.Path.{sym, ◌∙◌}
use Rattle.slip_read_paths.proofs.Walks.{led_block, led_nowhere, led_missing}
use Rattle.slip_read_verdicts.proofs.Verdicts.{shows_block, shows_nowhere, shows_missing}
use Rattle.slip_read_verdicts.proofs.path_verdict.Goals as goal

pub is_vote-requires : goal.is_vote-requires
is_vote-requires c = (
  c.requires.0.sorted,
  (
    (led_block _ _ _ _ _ c.in-To.is c.walk-end.ensures).0,
    c.requires.1.1,
  ),
)

pub returns-then-is_vote : goal.returns-then-is_vote
returns-then-is_vote c = λ l n. shows_block _ l _ _ _ _ true (led_block _ _ _ _ _ c.in-To.is
    c.walk-end.ensures).1 (sym c.if-is_vote.true ∙ c.is_vote.ensures l n)

pub returns-else-is_vote : goal.returns-else-is_vote
returns-else-is_vote c = λ l n. shows_block _ l _ _ _ _ false (led_block _ _ _ _ _ c.in-To.is
    c.walk-end.ensures).1 (sym c.if-is_vote.false ∙ c.is_vote.ensures l n)

pub returns-in-Nowhere : goal.returns-in-Nowhere
returns-in-Nowhere c = λ l n. shows_nowhere _ l _ _ _ (led_nowhere _ _ _ _ c.in-Nowhere.is c.walk-end.ensures)

pub returns-in-NotGiven : goal.returns-in-NotGiven
returns-in-NotGiven c = λ l n. shows_missing _ l _ _ _ (led_missing _ _ _ _ c.in-NotGiven.is c.walk-end.ensures)
