-- What is known of a set of voters that was asked for. Assumes nothing: these are definitions.
use Rattle.std.specs.Prelude.{◌≡◌}
use Rattle.committee.specs.Committee.{Committee, is_quorum}
use Rattle.committee_set.specs.AuthoritySet.{stake_of}
use Rattle.committee_quorum.specs.declared.Checked.{Checked}

-- whether they hold quorum is told right
unfoldable pub Sure : Committee → Checked → Type 0
Sure c x = x.quorum ≡ is_quorum c (stake_of c x.voters)
