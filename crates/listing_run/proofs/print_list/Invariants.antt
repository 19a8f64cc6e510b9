use Rattle.std.proofs.Common.{◌≡◌, ◌-◌, true, length}
use Rattle.types.specs.Values.{as_maybe}
use Rattle.list_readings_spec.specs.Answers.{is_ordinary}
use Rattle.listing_run.proofs.Counting.{Going}
use Rattle.listing_run.proofs.print_list.Given as goal

abbrev pub invariant-loop-turn : goal.invariant-loop-turn
invariant-loop-turn g l = is_ordinary l.list ≡ true → Going l.stakes l.store (as_maybe l.after) l.finals
