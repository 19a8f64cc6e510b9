use mathlib.Core.Path.{sym, ◌∙◌}
use Rattle.committee.specs.Committee.{get_stake}
use Rattle.ring_owners.proofs.Scans.{not_reached, has_voted, is_ringable}
use Rattle.ring_owners.proofs.gain.Goals as goal

pub returns-then-not-contains : goal.returns-then-not-contains
returns-then-not-contains c = rw (not_reached _ _ _ _ (sym c.contains.ensures ∙ c.if-not-contains.true))

pub returns-then-contains : goal.returns-then-contains
returns-then-contains c = rw (has_voted _ _ _ _ (sym c.contains-2.ensures ∙ c.if-contains.true))

pub returns : goal.returns
unfolding get_stake
returns c =
    let reached = sym c.contains.ensures ∙ c.if-not-contains.false in
    let counted = sym c.contains-2.ensures ∙ c.if-contains.false in
    rw (is_ringable _ _ _ _ c.requires reached counted)
