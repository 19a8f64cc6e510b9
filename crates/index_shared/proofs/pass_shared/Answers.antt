use mathlib.Core.Path.{subst}
use native.Mathlib.Omega.{arith}
use Rattle.index_spec.specs.Runs.{Run}
use Rattle.index_spec.specs.Walk.{At}
use Rattle.index_runs.specs.Values.{as_place}
use Rattle.index_shared.proofs.Passing.{passed_none, passed_runs, runs_movable}
use Rattle.index_shared.proofs.pass_shared.Goals as goal

pub returns-then-n-lead : goal.returns-then-n-lead
returns-then-n-lead c =
    let a = c.args in (
      omega arith,
      passed_none a.own.now a.mine.now a.index.now a.n a.cursors.now (as_place a.spot.place) a.spot.pos
          c.requires.sources.0,
    )

pub returns-then-apart-lt2 : goal.returns-then-apart-lt2
returns-then-apart-lt2 c =
    let a = c.args in (
      omega arith,
      passed_none a.own.now a.mine.now a.index.now a.n a.cursors.now (as_place a.spot.place) a.spot.pos
          c.requires.sources.0,
    )

pub returns-then-not-own_past : goal.returns-then-not-own_past
returns-then-not-own_past c =
    let a = c.args in (
      omega arith,
      passed_none a.own.now a.mine.now a.index.now a.n a.cursors.now (as_place a.spot.place) a.spot.pos
          c.requires.sources.0,
    )

pub returns-then-not-is_there : goal.returns-then-not-is_there
returns-then-not-is_there c =
    let a = c.args in (
      omega arith,
      passed_none a.own.now a.mine.now a.index.now a.n a.cursors.now (as_place a.spot.place) a.spot.pos
          c.requires.sources.0,
    )

pub move_on-requires : goal.move_on-requires
move_on-requires c =
    let a = c.args in
    let k = c.requires.sources.0 in
    let s = c.shared_runs-shared in
    let w = c.apart_runs-apart in
    record {
      room = k.room;
      left = runs_movable a.index.now a.cursors.now a.n a.spot.pos s.result w.result k s.ensures.1 w.ensures.0 w.ensures.1
          (omega (arith, c.if-apart-lt2.false));
      fits = λ j h. omega (
        arith,
        k.inside j h,
        c.well_formed,
      );
    }

pub returns : goal.returns
returns c =
    let a = c.args in
    let k = c.requires.sources in
    let s = c.shared_runs-shared in
    let w = c.apart_runs-apart in
    let x = c.read_run in
    let m = c.move_on in
    let there = c.is_there.ensures (c.if-not-is_there.false) in (
      omega (
        arith,
        w.ensures.0,
        s.ensures.0,
        c.reach-limit.ensures,
      ),
      passed_runs a.index.now a.cursors.now a.n a.spot.pos s.result w.result k.0 s.ensures.1 w.ensures.0 w.ensures.1
          (omega (arith, c.if-apart-lt2.false))
          c.leader-lead.result (omega (
            arith,
            c.if-n-lead.false,
          )) (c.leader-lead.ensures
          (omega (
            arith,
            c.if-n-lead.false,
          ))) m.new.cursors m.ensures a.own.now a.mine.now k.1
          (c.own_past.ensures
          (c.if-not-own_past.false)) (as_place a.spot.place)
          (subst (λ (y : Run). At (as_place a.spot.place) y.reference y.start) x.ensures there),
    )
