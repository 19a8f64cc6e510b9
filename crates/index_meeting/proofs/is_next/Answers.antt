use mathlib.Core.Path.{refl, sym, ◌∙◌}
use Rattle.base.proofs.Tests.{not_both}
use Rattle.index_spec.specs.Runs.{run}
use Rattle.index_spec.proofs.Sets.{same_voters_lem, voters_same}
use Rattle.index_runs.specs.Values.{as_run}
use native.Mathlib.Omega.{arith}
use Rattle.index_meeting.proofs.is_next.Goals as goal

pub returns-then-x : goal.returns-then-x
returns-then-x c = λ t. absurd (not_both t refl)

pub returns-then-not-same_voters : goal.returns-then-not-same_voters
returns-then-not-same_voters c = λ t. absurd (not_both t refl)

pub returns-then-same_voters : goal.returns-then-same_voters
returns-then-same_voters c = λ t. absurd (not_both t refl)

pub returns-then-same_voters-2 : goal.returns-then-same_voters-2
returns-then-same_voters-2 c = λ t. absurd (not_both t refl)

pub returns : goal.returns
unfolding as_run run
returns c = λ t.
    record {
      full = omega (arith, c.if-x.false);
      same = same_voters_lem c.args.x.votes
          c.args.votes
          (sym c.same_voters.ensures ∙ c.if-not-same_voters.false);
      voted = λ e. not_both (voters_same c.args.votes
          c.new.result (e ∙ sym c.new.ensures))
          (sym c.same_voters-2.ensures ∙ c.if-same_voters.false);
      other = λ e. not_both (voters_same c.args.after
          c.args.votes e)
          (sym c.same_voters-3.ensures ∙ c.if-same_voters-2.false);
      there = c.is_there.ensures t;
    }
