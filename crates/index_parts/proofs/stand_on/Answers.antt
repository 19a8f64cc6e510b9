use mathlib.Core.Path.{refl, ap, subst}
use native.Mathlib.Omega.{arith}
use Rattle.index_spec.specs.Runs.{run}
use Rattle.index_runs.specs.Values.{as_run, as_maybe, as_place}
use Rattle.index_parts.specs.Parts.{StandsNext, StandsOn}
use Rattle.index_parts.proofs.Held.{stood_over}
use Rattle.index_parts.proofs.stand_on.Goals as goal

pub returns-in_default : goal.returns-in_default
unfolding StandsOn StandsNext as_maybe
returns-in_default c =
    let a = c.args in
    let m = c.next_stands-found in
    let w = subst (StandsNext a.own.now a.mine.now m.new.mine a.index.now a.n a.cursors.now m.new.cursors
    (as_place a.spot.place) a.spot.pos) (ap as_maybe c.in_default.is) m.ensures in
    w

pub overflow_add-next : goal.overflow_add-next
overflow_add-next c = omega (
  arith,
  c.requires.room.0.0,
  c.requires.room.0.1,
  c.well_formed.0,
)

pub overflow_sub-next : goal.overflow_sub-next
overflow_sub-next c = omega (
  arith,
  c.requires.room.0.0,
)

pub pass_shared-more-requires : goal.pass_shared-more-requires
unfolding StandsNext as_maybe
pass_shared-more-requires c =
    let a = c.args in
    let m = c.next_stands-found in
    let w = subst (StandsNext a.own.now a.mine.now m.new.mine a.index.now a.n a.cursors.now m.new.cursors
    (as_place a.spot.place) a.spot.pos) (ap as_maybe c.in-Some.is) m.ensures in record {
      sources = (w.0.ready, w.0.own_ready);
      room = omega (
        arith,
        c.requires.room.0.0,
        c.requires.room.0.1,
      );
    }

pub spot_after-requires : goal.spot_after-requires
spot_after-requires c = (
  omega (arith, c.pass_shared-more.ensures.0),
  omega (
    arith,
    c.requires.room.0.0,
    c.requires.room.0.1,
  ),
)

pub returns : goal.returns
unfolding StandsOn StandsNext as_maybe as_run run as_place
returns c =
    let a = c.args in
    let m = c.next_stands-found in
    let w = subst (StandsNext a.own.now a.mine.now m.new.mine a.index.now a.n a.cursors.now m.new.cursors
    (as_place a.spot.place) a.spot.pos)
    (ap as_maybe c.in-Some.is) m.ensures in
    let s = c.pass_shared-more in
    stood_over a.own.now a.mine.now m.new.mine a.index.now a.n a.cursors.now m.new.cursors s.new.cursors a.spot
    _ c.spot_after.result
    (as_run c.in-Some.x) s.result w.0 refl refl
    (omega (
      arith,
      c.requires.room.0.0,
    )) s.ensures.1 c.spot_after.ensures w.1
