use Rattle.committee.specs.Committee.{is_quorum}
use Rattle.final_certificates.proofs.certifies.Goals as goal

pub returns-then-epoch_changed_at : goal.returns-then-epoch_changed_at
returns-then-epoch_changed_at c = rw (← c.epoch_changed_at.ensures, c.if-epoch_changed_at.true)

pub returns : goal.returns
unfolding is_quorum
returns c = rw (
  ← c.epoch_changed_at.ensures,
  c.if-epoch_changed_at.false,
  ← c.requires.0.1,
  ← c.stake_of.ensures,
) c.is_quorum.ensures
