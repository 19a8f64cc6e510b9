use Rattle.index_runs.specs.Values.{as_run}
use Rattle.index_pieces.specs.Sources.{cursor_at, cursor_left}
use Rattle.index_own_past.specs.Own.{spent, later}
use Rattle.index_own_past.proofs.Own.{past_read}
use native.Mathlib.Omega.{arith}
use Rattle.index_own_past.proofs.own_past.Goals as goal

pub returns-then-mine-eq0 : goal.returns-then-mine-eq0
unfolding cursor_left
returns-then-mine-eq0 c = λ t. spent (omega (arith, c.if-mine-eq0.true))

pub read_run-requires-2 : goal.read_run-requires-2
unfolding cursor_at cursor_left
read_run-requires-2 c = omega (arith, c.requires.0.inside 0 (omega arith))

pub returns : goal.returns
unfolding cursor_at cursor_left
returns c = λ t.
    let x = c.read_run in
    let y = c.read_run-2 in
    later (omega (arith, c.if-mine-eq0.false))
    (past_read (as_run x.result) _ (as_run y.result) _ x.ensures y.ensures (c.begins_past.ensures t))
