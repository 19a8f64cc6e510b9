use Prim.Native.Nat.{◌*◌}
use mathlib.Core.Path.{sym}
use native.Mathlib.Omega.{arith}
use borrow.Author.Tests.{le-ltb}
use Rattle.committee.specs.Committee.{total_stake, is_quorum}
use Rattle.committee_set.specs.AuthoritySet.{stake_of}
use Rattle.committee_set.proofs.Votes.{stake_nobody}
use Rattle.committee_quorum.specs.Sure.{Sure}
use Rattle.committee_quorum.proofs.nobody.Goals as goal

pub returns : goal.returns
unfolding Sure is_quorum stake_of
returns c = λ s. sym (rw (c.new-voters.ensures, stake_nobody s 0) (le-ltb (2 * total_stake s) 0 (omega arith)))
