use mathlib.Core.Path.{subst}
use Rattle.slip_read_paths.specs.Walk.{InPlace}
use Rattle.slip_read_paths.proofs.Walks.{led_block, led_nowhere, led_missing, from_block, from_none, from_somewhere}
use Rattle.slip_read_verdicts.proofs.Verdicts.{no_certifier}
use Rattle.slip_read_verdicts.proofs.voter_verdict.Goals as goal

pub path_verdict-requires : goal.path_verdict-requires
unfolding InPlace
path_verdict-requires c = (
  c.requires.0,
  (
    subst (InPlace c.args.order.now) c.in-To.is
        c.requires.1.0,
    c.requires.1.1,
  ),
)

pub returns-in-To : goal.returns-in-To
returns-in-To c = λ l n o h. rw (from_block o _ (led_block _ _ _ _ _ c.in-To.is h).1) (c.path_verdict.ensures l n)

pub returns-in-Nowhere : goal.returns-in-Nowhere
returns-in-Nowhere c = λ l n o h. absurd (from_somewhere o (led_nowhere _ _ _ _ c.in-Nowhere.is h))

pub returns-in-NotGiven : goal.returns-in-NotGiven
returns-in-NotGiven c = λ l n o h. rw (from_none o (led_missing _ _ _ _ c.in-NotGiven.is h)) (no_certifier _ l _ _)
