-- Whom to ring at small values, evaluated. Assumes nothing.
use mathlib.Core.Path.{refl}
use Rattle.committee_set.proofs.Computing.{computing as computing-sets}
use Rattle.ring_owners.specs.Rung.{ringable}
use Rattle.ring_owners.specs.Ranked.{reached, ahead, placed, ranked, until_quorum, rung, ring_checks, ring}
use Rattle.ring_owners.specs.Cards.{Cards}

pub evaluated : Cards
unfolding computing-sets ringable reached ahead placed ranked until_quorum rung ring_checks ring
evaluated = record { course = refl; larger = refl; lowest = refl; held = refl; missed = refl; unknown = refl; broken = refl }
