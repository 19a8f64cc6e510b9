use Rattle.std.proofs.Common.{◌-◌, ◌+◌, ◌*◌}
use Rattle.types.specs.Values.{as_locator}
use Rattle.final_readings_spec.specs.Answers.{is_rejecting}
use Rattle.final_block_rejects.specs.Speeches.{speech_of}
use Rattle.final_voters.proofs.Visiting.{VisitedIncludes}
use Rattle.final_voters.proofs.+visit_visit_includes.Given as goal

abbrev pub decreases-visit : goal.decreases-visit
decreases-visit l = 2 * l.k + 1

abbrev pub decreases-visit_includes : goal.decreases-visit_includes
decreases-visit_includes l = 2 * l.k

abbrev pub invariant-visit_includes-loop-j : goal.invariant-visit_includes-loop-j
invariant-visit_includes-loop-j l = VisitedIncludes (speech_of (is_rejecting l.speech)) l.store l.order (as_locator l.locator) l.k l.initial.memo l.memo l.found
    l.j

abbrev pub decreases-visit_includes-loop-j : goal.decreases-visit_includes-loop-j
decreases-visit_includes-loop-j l = l.count - l.j
