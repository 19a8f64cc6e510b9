use native.Mathlib.Omega.{arith}
use Rattle.index_pieces.specs.Sources.{cursor_at, cursor_left}
use Rattle.index_own_past.proofs.own_limit.Goals as goal

pub read_run-requires : goal.read_run-requires
unfolding cursor_at cursor_left
read_run-requires c = omega (arith, c.if-mine-eq0.false, c.requires.0.inside 0 (omega arith))
