use Rattle.std.proofs.Common.{arith}
use Rattle.record_shared_ranges.specs.Cursor.{FurtherOn}
use Rattle.record_shared_ranges.proofs.Walk.{placed_index, placed}
use Rattle.cards_types.proofs.print_runs.Goals as goal

pub loop-run-init : goal.loop-run-init
loop-run-init g c =
    let r = c.args.rec.now in
    let e = c.first_statement-cursor.ensures in
    (placed r c.first_statement-cursor.result 0 e, omega (arith, placed_index r c.first_statement-cursor.result 0 e))

pub loop-run-smaller : goal.loop-run-smaller
unfolding FurtherOn
loop-run-smaller g c = omega (arith, c.in-Some.ensures.1.0, c.in-Some.ensures.1.1.0)

pub loop-run-preserved : goal.loop-run-preserved
unfolding FurtherOn
loop-run-preserved g c = (c.in-Some.ensures.1.1.1, c.in-Some.ensures.1.1.0)
