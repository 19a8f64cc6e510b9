use mathlib.Core.Path.{ap, ◌∙◌}
use Prim.Native.Nat.{ℕ}
use Rattle.committee.specs.Committee.{quorum_of, is_quorum}
use Rattle.record_spec.specs.Verify.{clock_valid}
use Rattle.record_clock.proofs.threshold_clock_valid_non_genesis.Goals as goal

pub returns : goal.returns
unfolding clock_valid is_quorum
returns c =
    let o = c in
    c.is_quorum.ensures
    ∙ ap (λ (t : ℕ). quorum_of t c.stake_of-stake.result.0) o.requires.1
    ∙ rw (c.stake_of-stake.ensures, c.previous_authors-voters.ensures)
