use mathlib.Core.Path.{sym, ap, ◌∙◌}
use Rattle.base.specs.Checks.{refused}
use Rattle.ring_fewest.specs.Answers.{as_ring}
use Rattle.host_ring.proofs.Rings.{fewest_small, fewest_asked}
use Rattle.host_ring.proofs.fewest_of.Goals as goal

pub returns-then-room-ne24 : goal.returns-then-room-ne24
unfolding as_ring
returns-then-room-ne24 c = ap refused c.no_room.ensures ∙ sym (fewest_small _ _ _ _ c.if-room-ne24.true)

pub returns : goal.returns
returns c = c.fewest_owners.ensures ∙ sym (fewest_asked _ _ _ _ c.if-room-ne24.false)
