use mathlib.Core.Path.{refl}
use native.Mathlib.Omega.{arith}
use Rattle.index_spec.specs.Walk.{runs_from}
use Rattle.index_runs.specs.Values.{as_place}
use Rattle.index_pieces.specs.Sources.{cursor_at, cursor_left}
use Rattle.index_cursors.specs.Spots.{after}
use Rattle.index_shared.proofs.Passing.{passed_none}
use Rattle.index_shared.proofs.pass_common.Goals as goal

pub returns-then-n-lead : goal.returns-then-n-lead
unfolding runs_from after
returns-then-n-lead c = let a = c.args in
    record {
      inside = omega arith;
      passed = passed_none a.own.now a.mine.now a.index.now a.n a.cursors.now (as_place a.place) 0 c.requires.0;
      place = refl;
    }

pub pass_shared-runs-requires : goal.pass_shared-runs-requires
unfolding cursor_at cursor_left
pass_shared-runs-requires c = let h = c.requires in record { sources = h; room = h.0.inside c.leader-lead.result (omega (arith, c.if-n-lead.false)) }

pub spot_after-after-requires : goal.spot_after-after-requires
unfolding cursor_at cursor_left
spot_after-after-requires c = (
  c.pass_shared-runs.ensures.0,
  c.requires.0.inside c.leader-lead.result (omega (
    arith,
    c.if-n-lead.false,
  )),
)

pub returns : goal.returns
unfolding cursor_at cursor_left
returns c = let s = c.pass_shared-runs in
    record {
      inside = omega (
        arith,
        s.ensures.0,
        c.requires.0.inside c.leader-lead.result (omega (
          arith,
          c.if-n-lead.false,
        )),
      );
      passed = s.ensures.1;
      place = c.spot_after-after.ensures.place;
    }
