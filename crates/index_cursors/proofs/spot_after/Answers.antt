use native.Mathlib.Omega.{arith}
use mathlib.Core.Path.{refl}
use Rattle.index_spec.specs.Runs.{run}
use Rattle.index_runs.specs.Values.{as_run, as_place}
use Rattle.index_cursors.proofs.Spots.{spot_none, spot_some}
use Rattle.index_cursors.proofs.spot_after.Goals as goal

pub returns-then-k-eq0 : goal.returns-then-k-eq0
returns-then-k-eq0 c = spot_none c.args.index.now c.args.spot c.args.k (omega (arith, c.if-k-eq0.true))

pub returns : goal.returns
unfolding as_place as_run run
returns c =
    let a = c.args in
    let x = c.read_run-last in
    spot_some a.index.now a.spot _ a.k (as_run x.result) (omega (arith, c.if-k-eq0.false)) refl x.ensures refl
    (omega (arith, c.requires.0))
