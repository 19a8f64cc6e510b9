use Rattle.final_readings_spec.specs.Answers.{as_reading}
use Rattle.types.specs.Values.{as_maybe}
use Rattle.load_along.specs.Along.{tables}
use Rattle.load_along.proofs.Going.{left_after}
use Rattle.load_marks.proofs.Clearing.{Clearing}
use Rattle.load_marks.proofs.clear_finals.Given as goal

abbrev pub invariant-loop-range : goal.invariant-loop-range
invariant-loop-range l =
    Clearing (as_reading l.initial.along.wanted.reading) l.stakes l.store l.order l.initial.marks l.marks (tables l.order l.sets l.edges l.lanes) l.along

abbrev pub decreases-loop-range : goal.decreases-loop-range
decreases-loop-range l = left_after (as_reading l.initial.along.wanted.reading) l.stakes l.store
    (as_maybe l.along.after)
