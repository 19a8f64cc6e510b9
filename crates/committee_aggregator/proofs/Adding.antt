-- `add`, case by case, as the code tells the cases apart. Assumes nothing.
use mathlib.Core.Path.{◌≡◌}
use mathlib.Core.Bool.{true, false}
use Prim.Native.Nat.{◌+◌, ◌<◌}
use native.Mathlib.Omega.{arith}
use borrow.Author.Tests.{eqb-true}
use Rattle.base.specs.Lists.{all_of}
use Rattle.base.specs.Checks.{refusal, passes, refused, answered, checked}
use Rattle.base.proofs.Tests.{and_right}
use Rattle.committee.specs.Committee.{AuthorityIndex, Committee, broken, is_quorum, known, get_stake}
use Rattle.committee_set.specs.AuthoritySet.{member, members, stake_of}
use Rattle.committee_vote_answer.specs.VoteAnswer.{told_of}
use Rattle.committee_aggregator.specs.StakeAggregator.{StakeAggregator, counted, has_quorum, aggregator_in_order, add_checks, told, add}
use Rattle.committee_vote_answer.specs.Answers.{as_add_answer}
use Rattle.committee_aggregator.specs.Answers.{as_aggregator, as_added}
use Rattle.committee_aggregator.specs.declared.StakeAggregator as code-aggregator
use Rattle.committee_aggregator.specs.declared.Added as code-added
use Rattle.committee.proofs.Bounds.{few_members, known_below, total_most, member_most}
use Rattle.committee_set.proofs.Sums.{stake_most}
use Rattle.std.specs.Prelude.{Ok, Err}
use Rattle.base.specs.Refusals.{refusal_number}
use Rattle.base.specs.declared.refusal.Refusal.{Refusal}
use Rattle.committee_vote_answer.specs.declared.Vote.{Vote}

-- what the code answers where it refuses
pub refused_sound : (d : code-added.Added) (g : code-aggregator.StakeAggregator) (n : Refusal) → (d.answer ≡ Err n) × (d.aggregator ≡ g) → as_added d ≡ record
    { answer = refused (refusal_number n); aggregator = as_aggregator g }
unfolding as_added as_add_answer
refused_sound d g n e = rw (e.0, e.1)

module _ (c : Committee) (g : StakeAggregator) (a : AuthorityIndex) where
  pub add_broken : broken c ≡ true → add c g a ≡ record { answer = refused 5; aggregator = g }
  unfolding add add_checks checked passes refusal all_of
  add_broken h = rw h

  pub add_disordered : broken c ≡ false → aggregator_in_order c g ≡ false → add c g a ≡ record { answer = refused 6; aggregator = g }
  unfolding add add_checks checked passes refusal all_of
  add_disordered h k = rw (h, k)

  pub add_unknown : broken c ≡ false → aggregator_in_order c g ≡ true → known c a ≡ false → add c g a ≡ record { answer = refused 21; aggregator = g }
  unfolding add add_checks checked passes refusal all_of
  add_unknown h k l = rw (h, k, l)

  pub add_counts : broken c ≡ false → aggregator_in_order c g ≡ true → known c a ≡ true
      → add c g a ≡ record { answer = answered (told c g a); aggregator = counted c g a }
  unfolding add add_checks checked passes all_of
  add_counts h k l = rw (h, k, l)

  -- an author whom the committee knows has a bit in the set, and his stake can be added
  pub vote_fits : broken c ≡ false → aggregator_in_order c g ≡ true → known c a ≡ true → (a < 128) × (g.stake + get_stake c a < 18446744073709551616)
  unfolding aggregator_in_order
  vote_fits h k l =
      let held = eqb-true g.stake (stake_of c g.votes) (and_right (all_of (known c) (members g.votes)) _ k) in
      (omega (arith, few_members c h, known_below c a l), omega (arith, held, stake_most c g.votes, member_most c a, total_most c h))

  -- what the code answers once the vote is counted
  pub added_sound : (n : code-aggregator.StakeAggregator) (r : Vote) → broken c ≡ false → aggregator_in_order c g ≡ true → known c a ≡ true
      → as_aggregator n ≡ counted c g a → as_add_answer (Ok r) ≡ answered (told_of (member g.votes a) (is_quorum c g.stake) (is_quorum c n.stake.0))
      → as_added (record { answer = Ok r; aggregator = n }) ≡ add c g a
  unfolding as_added told has_quorum
  added_sound n r h k l e f = rw (f, add_counts h k l, ← e)
